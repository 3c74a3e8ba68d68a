-- What a method gives that steps through values, or that makes what steps through them.
use Rattle.std.specs.Prelude.{ℕ, false, Option, Some, None}
use Rattle.hir_ids.specs.declared.owners.MaybeOwn.{MaybeOwn}
use Rattle.hir_ids.specs.declared.owners.Optional.{Optional}
use Rattle.hir_types.specs.Named.{ReturnedType, Success}
use Rattle.hir_types.specs.declared.callbacks.NoCallback.{NoCallback}
use Rattle.hir_types.specs.declared.paths.NoTraitPath.{NoTraitPath}
use Rattle.hir_types.specs.declared.paths.OpaquePath.{OpaquePath}
use Rattle.hir_types.specs.declared.paths.ReturnableStructPath.{ReturnableStructPath}
use Rattle.hir_types.specs.declared.positions.OutputOnly.{OutputOnly}
use Rattle.hir_types.specs.declared.returns.SuccessType.TheVariants as success
use Rattle.hir_types.specs.declared.types.HirType.{out-HirType, roll-HirType}
use Rattle.hir_types.specs.declared.types.HirType.TheOpen.{HirType-F}

-- ---- the value of a step

-- an opaque that is always there
abbrev pub opaque_there : OpaquePath Optional MaybeOwn → ReturnedType
opaque_there path = roll-HirType _ _ _ _ _ _ (HirType-F.Opaque (record path { optional = record { 0 = false } }))

abbrev pub there_layer : ReturnedType → HirType-F OutputOnly NoCallback MaybeOwn ℕ ReturnableStructPath NoTraitPath ReturnedType → ReturnedType
there_layer t (HirType-F.Opaque path) = opaque_there path
there_layer t _ = t

-- of what may be absent, what is there: an opaque that may be absent where it is there, and anything else itself
abbrev pub value_there : Success → Success
value_there (success.OutType t) = success.OutType (there_layer t (out-HirType _ _ _ _ _ _ t))
value_there other = other

-- ---- what makes one

abbrev pub opaque_layer : HirType-F OutputOnly NoCallback MaybeOwn ℕ ReturnableStructPath NoTraitPath ReturnedType → Option ℕ
opaque_layer (HirType-F.Opaque path) = Some path.tcx_id
opaque_layer _ = None

-- the opaque that comes of success
abbrev pub given_opaque : Success → Option ℕ
given_opaque (success.OutType t) = opaque_layer (out-HirType _ _ _ _ _ _ t)
given_opaque _ = None
