-- Modules by the names in them.
use Rattle.std.specs.Prelude.{◌≡◌, ◌≢◌, ℕ, List, [], ◌∷◌, ◌++◌, length, slice_get, Option, Some, None, MatchOption, if◌then◌else◌}
use Rattle.std.specs.Ordering.{nat_cmp}
use Rattle.std.specs.Cmp.Lexicographic.{slice_cmp}
use Rattle.std.specs.BTreeMap.{get}
use Rattle.std.specs.Str.{bytes_eq}
use Rattle.bridge_decl.specs.declared.modules.Module.{Module}
use Rattle.bridge_ast.specs.declared.scopes.Scope.{Scope}
use Rattle.bridge_ast.specs.EnvFaults.{module_at, named_in}
use Rattle.bridge_text.specs.NameIndex.{HasMeanings}

-- module paths are distinct, the first is empty, and a path that no module has is the beginning of none
pub record ArePaths (modules : List Module) : Type 0 where
  pub distinct : (n : ℕ) (m : Module) → slice_get modules n ≡ Some m → module_at modules m.path ≡ Some n
  pub closed : (path : List (List ℕ)) (name : List ℕ) → module_at modules path ≡ None
      → module_at modules (path ++ name ∷ []) ≡ None
  pub root : (m : Module) → slice_get modules 0 ≡ Some m → m.path ≡ []

-- the path is that of the module of a number, with a name at its end
pub record IsUnder (modules : List Module) (number : ℕ) (name : List ℕ) (path : List (List ℕ)) : Type 0 where
  pub above : Module
  pub stands : slice_get modules number ≡ Some above
  pub ends : path ≡ above.path ++ name ∷ []

-- the number is that of the parent of the path, or the path is the root's
abbrev pub IsParent : List Module → Option ℕ → List (List ℕ) → Type 0
IsParent modules parent path = MatchOption parent (path ≡ []) (λ number. (name : List ℕ) × IsUnder modules number name path)

-- the scope has the names in a module of the modules
pub record IsScope (modules : List Module) (m : Module) (scope : Scope) : Type 0 where
  pub names : HasMeanings scope.names (named_in m)
  pub submodules : (name : List ℕ) → get (slice_cmp nat_cmp) scope.submodules name ≡ module_at modules (m.path ++ name ∷ [])
  pub parent : IsParent modules scope.parent m.path

-- the scopes are those of the modules
pub record Knows (scopes : List Scope) (modules : List Module) : Type 0 where
  pub count : length scopes ≡ length modules
  pub paths : ArePaths modules
  pub scope_of : (n : ℕ) (m : Module) (scope : Scope) → slice_get modules n ≡ Some m → slice_get scopes n ≡ Some scope
      → IsScope modules m scope

-- the scope of a number has one submodule more
pub record AddsSubmodule (was is : Scope) (name : List ℕ) (number : ℕ) : Type 0 where
  pub names : is.names ≡ was.names
  pub parent : is.parent ≡ was.parent
  pub submodules : (q : List ℕ) → get (slice_cmp nat_cmp) is.submodules q ≡ (if bytes_eq name q then Some number else get
      (slice_cmp nat_cmp) was.submodules q)

-- of scopes, that of a number has one submodule more
pub record AddsUnder (old new : List Scope) (above : ℕ) (name : List ℕ) (number : ℕ) : Type 0 where
  pub count : length new ≡ length old
  pub others : (n : ℕ) (scope : Scope) → n ≢ above → slice_get new n ≡ Some scope → slice_get old n ≡ Some scope
  pub added : (was is : Scope) → slice_get old above ≡ Some was → slice_get new above ≡ Some is → AddsSubmodule was is name number

-- the module of a number is entered into the scope of its parent; the root has none
abbrev pub Enters : List Scope → List Scope → Option ℕ → List (List ℕ) → ℕ → Type 0
Enters old new None path number = old ≡ new
Enters old new (Some above) path number =
    (parent : List (List ℕ)) (name : List ℕ) → path ≡ parent ++ name ∷ [] → AddsUnder old new above name number
