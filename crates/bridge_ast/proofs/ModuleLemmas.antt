-- A loop that tests modules.
use Rattle.std.proofs.Common.{◌≡◌, ℕ, ◌+◌, ◌<◌, List, [], ◌∷◌, ◌++◌, length, take, drop, get_or, Option, Some, None, sym, ap, ◌∙◌}
use Rattle.std.proofs.Common.{arith, subst}
use Rattle.std.proofs.lemmas.List.{take_more, take_at}
use Rattle.std.proofs.lemmas.Option.{slice_get_within}
use Rattle.bridge_decl.specs.declared.modules.Module.{Module}
use Rattle.bridge_ast.specs.declared.fault.EnvFault.{EnvFault}
use Rattle.bridge_ast.specs.declared.scopes.Scope.{Scope}
use Rattle.bridge_ast.specs.Each.{each}
use Rattle.bridge_ast.specs.EnvFaults.{IsFirst, module_at, named_in, path_faults, content_faults, module_faults, faults_of}
use Rattle.bridge_text.specs.NameIndex.{HasMeanings}
use Rattle.bridge_ast.specs.inside.Scopes.{IsParent, Knows, Enters}
use Rattle.bridge_ast.proofs.EachLemmas.{each_kept, each_stopped, first_front, first_after, none_after, length_front}
use Rattle.bridge_ast.proofs.ScopeLemmas.{knows_more}

module _ (modules : List Module) (i : ℕ) (x : Module) (path : List (List ℕ)) (within : i < length modules)
    (is : x ≡ get_or modules i x) (its : path ≡ x.path) where
  pub path_first : (fault : EnvFault) → each module_faults (take i modules) ≡ []
      → IsFirst fault (path_faults (take i modules) path) → IsFirst fault (faults_of modules)
  path_first fault before first =
      each_stopped module_faults modules i x fault within is before
      (first_front fault (path_faults (take i modules) x.path) (content_faults (length (take i modules)) x)
      (subst (λ p. IsFirst fault (path_faults (take i modules) p)) its first))

  pub content_first : (fault : EnvFault) → each module_faults (take i modules) ≡ [] → path_faults (take i modules) path ≡ []
      → IsFirst fault (content_faults i x) → IsFirst fault (faults_of modules)
  content_first fault before passed first =
      each_stopped module_faults modules i x fault within is before
      (first_after fault (path_faults (take i modules) x.path) (content_faults (length (take i modules)) x)
      (subst (λ p. path_faults (take i modules) p ≡ []) its passed)
      (subst (λ n. IsFirst fault (content_faults n x)) (sym (length_front modules i within)) first))

  pub module_kept : each module_faults (take i modules) ≡ [] → path_faults (take i modules) path ≡ [] → content_faults i x ≡ []
      → each module_faults (take (i + 1) modules) ≡ []
  module_kept before passed contents =
      each_kept module_faults modules i x within is before
      (none_after (path_faults (take i modules) x.path) (content_faults (length (take i modules)) x)
      (subst (λ p. path_faults (take i modules) p ≡ []) its passed)
      (ap (λ n. content_faults n x) (length_front modules i within) ∙ contents))

  pub module_known : (old new pushed : List Scope) (parent : Option ℕ) (scope : Scope) → Knows old (take i modules)
      → module_at (take i modules) path ≡ None → IsParent (take i modules) parent path → Enters old new parent path i
      → HasMeanings scope.names (named_in x) → scope.submodules.entries ≡ [] → scope.parent ≡ parent → pushed ≡ new ++ scope ∷ []
      → Knows pushed (take (i + 1) modules)
  module_known old new pushed parent scope known absent is_parent enters names empty parent_is all =
      subst (λ scopes. Knows scopes (take (i + 1) modules)) (sym all)
      (subst (Knows (new ++ scope ∷ [])) (sym (take_more modules i x within ∙ ap (λ y. take i modules ++ y ∷ []) (sym is)))
      (knows_more old new (take i modules) x known (subst (λ p. module_at (take i modules) p ≡ None) its absent) parent scope
      (subst (IsParent (take i modules) parent) its is_parent)
      (subst (Enters old new parent x.path) (sym (length_front modules i within))
      (subst (λ p. Enters old new parent p i) its enters)) names empty parent_is))

pub parent_within : (scopes : List Scope) (modules : List Module) (parent : Option ℕ) (path : List (List ℕ)) (n : ℕ)
    → Knows scopes modules → IsParent modules parent path → parent ≡ Some n → n < length scopes
parent_within scopes modules None path n known empty e = absurd cc
parent_within scopes modules (Some above) path n known (name, under) e =
    let inside : above < length modules = slice_get_within modules above under.above under.stands in
    let same : above ≡ n = cc in
    omega (arith, known.count)

enters_count : (old new : List Scope) (modules : List Module) (parent : Option ℕ) (path : List (List ℕ)) (number : ℕ)
    → IsParent modules parent path → Enters old new parent path number → length new ≡ length old
enters_count old new modules None path number empty same = ap length (sym same)
enters_count old new modules (Some above) path number (name, under) enters = (enters under.above.path name under.ends).count

-- a vector whose slice was written, with one element pushed
pub pushed_after : (old new items pushed : List Scope) (scope : Scope) (len : ℕ) (modules : List Module) (parent : Option ℕ)
    (path : List (List ℕ)) (number : ℕ) → IsParent modules parent path → Enters old new parent path number → length old ≡ len
    → pushed ≡ take len (new ++ drop (length new) items) ++ scope ∷ [] → pushed ≡ new ++ scope ∷ []
pushed_after old new items pushed scope len modules parent path number is_parent enters counted all =
    all ∙ ap (λ xs. xs ++ scope ∷ []) (take_at new (drop (length new) items) len
    (enters_count old new modules parent path number is_parent enters ∙ counted))
