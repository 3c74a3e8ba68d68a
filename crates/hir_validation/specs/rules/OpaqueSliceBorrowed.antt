-- OpaqueSliceBorrowed: a method of a type returns a lifetime of a slice of opaques, which it takes.
use Rattle.std.specs.Prelude.{◌≡◌, ◌<◌, ℕ, List, Some}
use Rattle.std.specs.List.{Contains}
use Rattle.hir_definitions.specs.declared.methods.Param.{Param}
use Rattle.hir_ids.specs.declared.ids.TypeId.TheVariants as type
use Rattle.hir_life.specs.Environment.{Environment}
use Rattle.hir_life.specs.declared.maybe_static.MaybeStatic.{MaybeStatic}
use Rattle.hir_life.specs.declared.maybe_static.MaybeStatic.TheVariants.{NonStatic}
use Rattle.hir_validation.specs.Returned.{param_lifetimes}
use Rattle.hir_validation.specs.WholeTypes.{Slice, param_whole}

-- over the lifetimes of the method, and those that it returns
pub record OpaqueSliceBorrowed (env : Environment) (returned : List (MaybeStatic ℕ)) (param : Param) (lifetime : ℕ) : Type 0 where
  pub number : ℕ
  pub of_opaques : param_whole param.ty ≡ Slice (Some (type.Opaque number))
  pub has : Contains (param_lifetimes param.ty) (NonStatic lifetime)
  pub is_returned : Contains returned (NonStatic lifetime)
  pub within : lifetime < env.count
