-- ElidedReturn: a method of a type returns a lifetime that has no name.
use Rattle.std.specs.Prelude.{◌≡◌, ◌≤◌, ℕ, length}
use Rattle.std.specs.List.{Contains}
use Rattle.bridge_report.specs.Callables.{Callable}
use Rattle.bridge_report.specs.declared.report.CallableId.TheVariants as callable
use Rattle.hir_ids.specs.declared.ids.TypeId.{TypeId}
use Rattle.hir_life.specs.declared.maybe_static.MaybeStatic.TheVariants.{NonStatic}

-- the declared lifetimes come first, and have names
pub record ElidedReturn (c : Callable) : Type 0 where
  pub type : TypeId
  pub number : ℕ
  pub is_method : c.id ≡ callable.Method type number
  pub lifetime : ℕ
  pub returned : Contains c.named (NonStatic lifetime)
  pub unnamed : length c.environment.bounds ≤ lifetime
