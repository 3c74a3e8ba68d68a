-- What a type is as a whole, and which lifetimes a method returns, as the code holds them.
use Rattle.std.specs.Prelude.{ℕ, List}
use Rattle.hir_life.specs.Environment.{Environment}
use Rattle.hir_life.specs.declared.bounds.BoundedLifetime.{BoundedLifetime}
use Rattle.hir_life.specs.declared.maybe_static.MaybeStatic.{MaybeStatic}
use Rattle.hir_validation.specs.WholeTypes.{Whole, Primitive, Enum, Opaque, Struct, Slice, Callback, Other}
use Rattle.hir_validation.specs.declared.whole.WholeType.{WholeType}
use Rattle.hir_validation.specs.declared.whole.WholeType.TheVariants as whole

abbrev pub whole_seen : WholeType → Whole
whole_seen whole.Primitive = Primitive
whole_seen (whole.Enum id) = Enum id
whole_seen (whole.Opaque id borrow given) = Opaque id borrow given.now
whole_seen (whole.Struct id held given) = Struct id held given.now
whole_seen (whole.Slice element) = Slice element
whole_seen (whole.Callback output) = Callback output.now
whole_seen whole.Other = Other

-- the lifetimes of a method, with those that it returns
pub record WithReturned : Type 0 where
  pub env : Environment
  pub returned : List (MaybeStatic ℕ)

-- a lifetime of a method that has a name, and where it is asked that others outlive it
pub record NamedLifetime : Type 0 where
  pub env : Environment
  pub source : List ℕ
  pub number : ℕ
  pub bounds : BoundedLifetime
