-- The paths of modules that fit together are distinct, and each begins with those of the modules around it.
use Rattle.std.proofs.Common.{◌≡◌, ℕ, List, [], ◌∷◌, ◌++◌, Option, Some, None, append_assoc, refl, sym, ap, ◌∙◌, subst}
use Rattle.std.specs.Prelude.{option_map}
use Rattle.std.proofs.lemmas.List.{append-nil}
use Rattle.bridge_decl.specs.declared.modules.Module.{Module}
use Rattle.bridge_ast.specs.EnvFaults.{module_at, parent_and_last}
use Rattle.bridge_ast.specs.inside.Fitting.{AllAfter, FitsModule, FitsUnder, FitInOrder}
use Rattle.bridge_ast.specs.inside.Scopes.{ArePaths, IsParent}
use Rattle.bridge_ast.proofs.NamedLemmas.{free_under, whole}
use Rattle.bridge_ast.proofs.PathLemmas.{module_at_some, paths_more}

-- a path without a last name is the root's
root_alone : (path : List (List ℕ)) → parent_and_last path ≡ None → path ≡ []
root_alone [] none = refl
root_alone (first ∷ []) none = absurd cc
root_alone (first ∷ second ∷ path) none = by (parent_and_last (second ∷ path)) (root_alone (second ∷ path)) refl none
  where
    by : (split : Option (List (List ℕ) × List ℕ)) → (parent_and_last (second ∷ path) ≡ None → second ∷ path ≡ [])
        → parent_and_last (second ∷ path) ≡ split
        → option_map {U = List (List ℕ) × List ℕ} (λ (p : List (List ℕ) × List ℕ). (first ∷ p.0, p.1)) split ≡ None
        → first ∷ second ∷ path ≡ []
    by None shorter e h = absurd (let nil = shorter e in cc)
    by (Some p) shorter e h = absurd cc

-- a module that fits under those before it has a parent there, or is the root
parent_of_fitting : (before : List Module) (path : List (List ℕ)) (split : Option (List (List ℕ) × List ℕ))
    → parent_and_last path ≡ split → FitsUnder before split → (parent : Option ℕ) × IsParent before parent path
parent_of_fitting before path None e fits = (None, root_alone path e)
parent_of_fitting before path (Some (above, name)) e fits =
    let (k, at_path, free) = free_under before above name (module_at before above) refl fits in
    let there = module_at_some before above k at_path in
    (Some k, (name, record { above = there.0; stands = there.1; ends = whole path above name e ∙ ap (λ p. p ++ name ∷ []) (sym there.2) }))

paths_after : (before modules : List Module) → ArePaths before → AllAfter FitsModule before modules → ArePaths (before ++ modules)
paths_after before [] are fit = subst ArePaths (sym (append-nil before)) are
paths_after before (m ∷ modules) are fit =
    let above = parent_of_fitting before m.path (parent_and_last m.path) refl fit.0.parent in
    subst ArePaths (append_assoc before (m ∷ []) modules)
    (paths_after (before ++ m ∷ []) modules (paths_more before m are fit.0.new above.0 above.1) fit.1)

no_paths : ArePaths []
no_paths = record { distinct = λ n m h. absurd cc; closed = λ path name h. refl; root = λ m h. absurd cc }

-- the paths of modules that fit together
pub paths_of_fitting : (modules : List Module) → FitInOrder modules → ArePaths modules
paths_of_fitting modules fit = paths_after [] modules no_paths fit
