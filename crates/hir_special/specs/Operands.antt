-- What a comparison compares: two values of one type.
use Rattle.std.specs.Prelude.{ℕ, List, [], ◌∷◌, Bool, false, not, ◌&&◌, Option, Some, None, ◌==◌}
use Rattle.hir_attrs.specs.declared.special.kind.SpecialKind.{SpecialKind}
use Rattle.hir_attrs.specs.declared.special.kind.SpecialKind.TheVariants as kind
use Rattle.hir_definitions.specs.declared.methods.Param.{Param}
use Rattle.hir_definitions.specs.declared.methods.ParamSelf.{ParamSelf}
use Rattle.hir_ids.specs.declared.owners.Borrow.{Borrow}
use Rattle.hir_ids.specs.declared.owners.MaybeOwn.{MaybeOwn}
use Rattle.hir_ids.specs.declared.owners.MaybeOwn.TheVariants as owner
use Rattle.hir_types.specs.declared.callbacks.Callback.{Callback}
use Rattle.hir_types.specs.declared.paths.StructPath.{StructPath}
use Rattle.hir_types.specs.declared.paths.TraitPath.{TraitPath}
use Rattle.hir_types.specs.declared.positions.InputOnly.{InputOnly}
use Rattle.hir_types.specs.declared.self_types.SelfType.{SelfType}
use Rattle.hir_types.specs.declared.self_types.SelfType.TheVariants as receiver
use Rattle.hir_types.specs.declared.types.HirType.{HirType, out-HirType}
use Rattle.hir_types.specs.declared.types.HirType.TheOpen.{HirType-F}
use Rattle.hir_special.specs.Receivers.{is_mut}

-- the type of a parameter
abbrev pub Operand : Type 0
Operand = HirType InputOnly Callback Borrow ℕ StructPath TraitPath

-- a struct behind `&mut`
abbrev pub is_mut_ref : MaybeOwn → Bool
is_mut_ref owner.Own = false
is_mut_ref (owner.Borrow borrow) = is_mut borrow.mutability

-- one opaque, where both are behind `&` and the operand is always there; one struct, where none is behind `&mut`; or one enum
abbrev pub is_same_layer : SelfType → HirType-F InputOnly Callback Borrow ℕ StructPath TraitPath Operand → Bool
is_same_layer (receiver.Opaque mine) (HirType-F.Opaque path) =
    mine.tcx_id == path.tcx_id && (not (is_mut mine.owner.mutability) && (not (is_mut path.owner.mutability) && not path.optional.0))
is_same_layer (receiver.Struct mine) (HirType-F.Struct path) =
    mine.tcx_id == path.tcx_id && (not (is_mut_ref mine.owner) && not (is_mut_ref path.owner))
is_same_layer (receiver.Enum mine) (HirType-F.Enum path) = mine.tcx_id == path.tcx_id
is_same_layer _ _ = false

abbrev pub is_same : SelfType → Operand → Bool
is_same mine ty = is_same_layer mine (out-HirType _ _ _ _ _ _ ty)

-- of a receiver and the first parameter, where there are both
abbrev pub is_other : Option ParamSelf → List Param → Bool
is_other None params = false
is_other (Some it) [] = false
is_other (Some it) (param ∷ params) = not (is_same it.ty param.ty)

-- a comparison of a value with another type's
unfoldable pub is_wrong_operand : SpecialKind → Option ParamSelf → List Param → Bool
is_wrong_operand kind.Comparison self params = is_other self params
is_wrong_operand _ self params = false
