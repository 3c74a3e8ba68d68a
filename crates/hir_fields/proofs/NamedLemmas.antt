-- What is told of declared lifetimes, by whether all are named by identifiers.
use Rattle.std.proofs.Common.{◌≡◌, ◌≢◌, Bool, true, false, List, [], ◌∷◌, ◌++◌, ap, refl, ◌∙◌}
use Rattle.std.specs.Prelude.{All, MatchBool}
use Rattle.std.specs.List.{flat_map}
use Rattle.std.proofs.lemmas.List.Elements.{All-head, All-tail}
use Rattle.bridge_decl.specs.declared.lifetimes.LifetimeEnv.{LifetimeEnv}
use Rattle.bridge_decl.specs.declared.lifetimes.LifetimeNode.{LifetimeNode}
use Rattle.bridge_text.specs.Ident.{IsIdent}
use Rattle.hir_heads.proofs.NameLemmas.{all_idents, named}
use Rattle.hir_heads.specs.Heads.{lifetime_errors}
use Rattle.hir_heads.specs.Names.{name_errors}
use Rattle.hir_life.specs.Declarations.{HasIdents}

none_told : (nodes : List LifetimeNode) → All (λ node. IsIdent node.name) nodes → flat_map (λ node. name_errors node.name) nodes ≡ []
none_told [] all = refl
none_told (node ∷ nodes) all =
    ap (λ es. es ++ flat_map (λ n. name_errors n.name) nodes) (named node.name (All-head (λ n. IsIdent n.name) node nodes all))
    ∙ none_told nodes (All-tail (λ n. IsIdent n.name) node nodes all)

-- nothing is told of them exactly where all are
pub told_unnamed : (b : Bool) (declared : LifetimeEnv) → MatchBool b (HasIdents declared) (¬ (HasIdents declared))
    → MatchBool b (lifetime_errors declared ≡ []) (lifetime_errors declared ≢ [])
told_unnamed true declared idents = none_told declared.nodes idents
told_unnamed false declared other = λ none. other (all_idents declared.nodes none)
