-- Which lifetimes of a list were met.
use Rattle.std.specs.Prelude.{◌≡◌, ℕ, Bool, List}
use Rattle.std.specs.BTreeSet as sorted
use Rattle.std.specs.Ordering.{nat_cmp}
use Rattle.hir_life.specs.declared.maybe_static.MaybeStatic.{MaybeStatic}
use Rattle.hir_life.specs.declared.maybe_static.MaybeStatic.TheVariants.{Static, NonStatic}
use Rattle.hir_borrowing_fields.specs.declared.carried.MetLifetimes.{MetLifetimes}
use Rattle.hir_borrowing_fields.specs.inside.Carried.{is_among}

abbrev pub was_met : MetLifetimes → MaybeStatic ℕ → Bool
was_met met Static = met.is_static
was_met met (NonStatic l) = sorted.contains nat_cmp met.numbers l

-- the lifetimes of the list are those that were met
abbrev pub AreMet : MetLifetimes → List (MaybeStatic ℕ) → Type 0
AreMet met once = (m : MaybeStatic ℕ) → was_met met m ≡ is_among m once
