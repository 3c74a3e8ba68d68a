-- Lifetimes of a method by their numbers.
use Rattle.std.specs.Prelude.{ℕ, List, [], Bool, false, ◌==◌}
use Rattle.std.specs.List.{list_any}
use Rattle.hir_life.specs.declared.maybe_static.MaybeStatic.{MaybeStatic}
use Rattle.hir_life.specs.declared.maybe_static.MaybeStatic.TheVariants.{NonStatic, Static}

-- what is said of the number of a lifetime, where it has one
abbrev pub where_number : {E : Type 0} → (ℕ → List E) → MaybeStatic ℕ → List E
where_number f Static = []
where_number f (NonStatic l) = f l

-- it is that number
abbrev pub is_lifetime : ℕ → ℕ → Bool
is_lifetime l other = l == other

-- it is the lifetime of that number
abbrev pub is_numbered : ℕ → MaybeStatic ℕ → Bool
is_numbered l Static = false
is_numbered l (NonStatic other) = other == l

-- it is among these
abbrev pub is_in_list : ℕ → List ℕ → Bool
is_in_list l lifetimes = list_any (is_lifetime l) lifetimes

abbrev pub is_returned : List (MaybeStatic ℕ) → ℕ → Bool
is_returned returned l = list_any (is_numbered l) returned
