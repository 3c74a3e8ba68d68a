-- A set of numbers as it grows by those of lifetimes.
use Rattle.std.specs.Prelude.{ℕ, List, [], ◌∷◌}
use Rattle.std.specs.BTreeSet.{insert_key}
use Rattle.std.specs.Ordering.{nat_cmp}
use Rattle.hir_life.specs.declared.maybe_static.MaybeStatic.{MaybeStatic}
use Rattle.hir_life.specs.declared.maybe_static.MaybeStatic.TheVariants.{Static, NonStatic}

-- the numbers with that of the lifetime, where it has one
abbrev pub with_number : List ℕ → MaybeStatic ℕ → List ℕ
with_number ks Static = ks
with_number ks (NonStatic l) = insert_key nat_cmp ks l

-- the same of each of the lifetimes
abbrev pub with_numbers : List ℕ → List (MaybeStatic ℕ) → List ℕ
with_numbers ks [] = ks
with_numbers ks (l ∷ ls) = with_numbers (with_number ks l) ls
