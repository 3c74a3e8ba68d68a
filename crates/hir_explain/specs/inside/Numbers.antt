-- Lists of lifetimes beside lifetimes that may be `'static`.
use Rattle.std.specs.Prelude.{ℕ, List}
use Rattle.std.specs.List.{Contains}
use Rattle.hir_life.specs.declared.maybe_static.MaybeStatic.{MaybeStatic}
use Rattle.hir_life.specs.declared.maybe_static.MaybeStatic.TheVariants.{Static, NonStatic}

-- this is a lifetime of the list, and not `'static`
abbrev pub HasNumber : List ℕ → MaybeStatic ℕ → Type 0
HasNumber long Static = ⊥
HasNumber long (NonStatic l) = Contains long l
