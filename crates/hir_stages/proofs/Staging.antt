-- The stage to which types come is the one that is given.
use Rattle.std.proofs.Common.{◌≡◌, List, [], ◌∷◌, ◌++◌, ap, refl, sym, ◌∙◌, Ok, Err, Result}
use Rattle.std.specs.Prelude.{All}
use Rattle.std.specs.List.{flat_map}
use Rattle.std.proofs.lemmas.List.Elements.{All-head, All-tail}
use Rattle.bridge_decl.specs.declared.lifetimes.LifetimeEnv.{LifetimeEnv}
use Rattle.bridge_decl.specs.declared.lifetimes.LifetimeNode.{LifetimeNode}
use Rattle.bridge_text.specs.Ident.{IsIdent}
use Rattle.hir_heads.proofs.NameLemmas.{all_idents, named}
use Rattle.hir_heads.specs.Heads.{lifetime_errors}
use Rattle.hir_heads.specs.Names.{name_errors}
use Rattle.hir_number.specs.Breaches.{Broken}
use Rattle.hir_number.specs.Shapes.{NumberLists}
use Rattle.hir_number.specs.declared.fault.NumberFault.{NumberFault}
use Rattle.hir_number.specs.declared.signature.NumberedSignature.{NumberedSignature}
use Rattle.hir_reports.specs.declared.report.LoweringError.{LoweringError}
use Rattle.hir_signatures.specs.Stages.{ComesTo, Stage, Breached, Misnamed, Unnumbered, Judged}
use Rattle.hir_stages.specs.Given.{breached_stage, named_stage, numbered_stage}

-- nothing is told of names that are identifiers
none_told : (nodes : List LifetimeNode) → All (λ node. IsIdent node.name) nodes → flat_map (λ node. name_errors node.name) nodes ≡ []
none_told [] all = refl
none_told (node ∷ nodes) all =
    ap (λ es. es ++ flat_map (λ n. name_errors n.name) nodes) (named node.name (All-head (λ n. IsIdent n.name) node nodes all))
    ∙ none_told nodes (All-tail (λ n. IsIdent n.name) node nodes all)

with_breaches : (bs : List Broken) (rest : Stage) → (bs ≡ [] → ⊥) → Breached ≡ breached_stage rest bs
with_breaches [] rest some = absurd (some refl)
with_breaches (b ∷ bs) rest some = refl

with_others : (es : List LoweringError) (rest : Stage) → (es ≡ [] → ⊥) → Misnamed ≡ named_stage rest es
with_others [] rest some = absurd (some refl)
with_others (e ∷ es) rest some = refl

module _ (breaches : List Broken) (declared : LifetimeEnv) (numbers : Result NumberLists NumberFault) (IsIt : NumberedSignature → Type 0)
    (filled : NumberLists → NumberedSignature) (lists : NumberedSignature → NumberLists)
    (numbered : (n : NumberedSignature) → IsIt n → numbers ≡ Ok (lists n)) (is_filled : (n : NumberedSignature) → IsIt n → n ≡ filled (lists n))
  where
    -- without breaches, and with names that are identifiers
    goes_on : breaches ≡ [] → All (λ node. IsIdent node.name) declared.nodes → (r : Result NumberLists NumberFault) → numbers ≡ r
        → numbered_stage filled r ≡ breached_stage (named_stage (numbered_stage filled numbers) (lifetime_errors declared)) breaches
    goes_on none idents r same =
        ap (numbered_stage filled) (sym same) ∙ ap (named_stage (numbered_stage filled numbers)) (sym (none_told declared.nodes idents))
        ∙ ap (breached_stage (named_stage (numbered_stage filled numbers) (lifetime_errors declared))) (sym none)

    pub comes_as_given : (s : Stage) → ComesTo breaches declared numbers IsIt s
        → s ≡ breached_stage (named_stage (numbered_stage filled numbers) (lifetime_errors declared)) breaches
    comes_as_given Breached h = with_breaches breaches (named_stage (numbered_stage filled numbers) (lifetime_errors declared)) h
    comes_as_given Misnamed h =
        with_others (lifetime_errors declared) (numbered_stage filled numbers) (λ none. h.1 (all_idents declared.nodes none))
        ∙ ap (breached_stage (named_stage (numbered_stage filled numbers) (lifetime_errors declared))) (sym h.0)
    comes_as_given (Unnumbered f) h = goes_on h.0 h.1.0 (Err f) h.1.1.1
    comes_as_given (Judged n) h = ap Judged (is_filled n h.1.1) ∙ goes_on h.0 h.1.0 (Ok (lists n)) (numbered n h.1.1)
