-- The order in which modules are gone through: by the number of the segments of their paths, and then by their places in the
-- list. So each module comes before those inside it, and before all that are deeper than it.
use Rattle.std.specs.Prelude.{ℕ, zero, suc, ◌+◌, max, List, [], ◌∷◌, ◌++◌, length, ◌==◌, Bool, true, false, Option, Some, None}
use Rattle.bridge_decl.specs.declared.modules.Module.{Module}

-- the one, where it is there
abbrev pub where_there : {A : Type 0} → Bool → A → List A
where_there true x = x ∷ []
where_there false x = []

-- the numbers of the modules whose paths have so many segments, in order; the first module of the list has the number n
abbrev pub at_depth : ℕ → ℕ → List Module → List ℕ
at_depth depth n [] = []
at_depth depth n (m ∷ modules) = where_there (length m.path == depth) n ++ at_depth depth (n + 1) modules

-- those whose paths have fewer segments, from the fewest on
abbrev pub shallower : ℕ → List Module → List ℕ
shallower zero modules = []
shallower (suc depth) modules = shallower depth modules ++ at_depth depth 0 modules

-- the most segments that a path has
abbrev pub deepest : List Module → ℕ
deepest [] = 0
deepest (m ∷ modules) = max (length m.path) (deepest modules)

-- the numbers of all modules, in the order in which they are gone through
abbrev pub module_order : List Module → List ℕ
module_order modules = shallower (suc (deepest modules)) modules

-- what there is in the module that is found, if there is one
abbrev pub of_found : {X : Type 0} → (Module → List X) → Option Module → List X
of_found f None = []
of_found f (Some m) = f m
