-- What a path to a struct of either kind names.
use Rattle.std.specs.Prelude.{ℕ, List}
use Rattle.hir_life.specs.declared.maybe_static.MaybeStatic.{MaybeStatic}
use Rattle.hir_ids.specs.declared.ids.TypeId.{TypeId}
use Rattle.hir_ids.specs.declared.ids.TypeId.TheVariants as type
use Rattle.hir_types.specs.declared.paths.ReturnableStructPath.{ReturnableStructPath}
use Rattle.hir_types.specs.declared.paths.ReturnableStructPath.TheVariants as returnable

-- the lifetimes that stand for those of the struct, in order
abbrev pub returnable_lifetimes : ReturnableStructPath → List (MaybeStatic ℕ)
returnable_lifetimes (returnable.Struct path) = path.lifetimes
returnable_lifetimes (returnable.OutStruct path) = path.lifetimes

-- the struct
abbrev pub returnable_id : ReturnableStructPath → TypeId
returnable_id (returnable.Struct path) = type.Struct path.tcx_id
returnable_id (returnable.OutStruct path) = type.OutStruct path.tcx_id
