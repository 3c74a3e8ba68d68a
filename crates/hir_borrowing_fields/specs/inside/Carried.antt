-- What a leaf carries, as it is listed.
use Rattle.std.specs.Prelude.{ℕ, Bool, List, [], ◌∷◌, ◌++◌, cond}
use Rattle.std.specs.List.{list_any}
use Rattle.hir_life.specs.declared.maybe_static.MaybeStatic.{MaybeStatic}
use Rattle.hir_skeleton.specs.Leaves.{are_same}

-- whether the lifetime is one of the list
abbrev pub is_among : MaybeStatic ℕ → List (MaybeStatic ℕ) → Bool
is_among m ls = list_any (λ l. are_same l m) ls

-- the list, and the lifetime behind it unless it is there
abbrev pub with_once : List (MaybeStatic ℕ) → MaybeStatic ℕ → List (MaybeStatic ℕ)
with_once ls m = cond (is_among m ls) ls (ls ++ m ∷ [])
