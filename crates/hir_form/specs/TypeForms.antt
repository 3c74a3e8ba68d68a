-- What a type stands for at a position.
use Rattle.std.specs.Prelude.{[], Option}
use Rattle.bridge_order.specs.declared.catalog.Catalog.{Catalog}
use Rattle.bridge_rules.specs.Shapes.{shape_of}
use Rattle.hir_number.specs.declared.numbered.NumberedType.{NumberedType, fold-NumberedType}
use Rattle.hir_number.specs.declared.numbered.NumberedType.TheOpen.{NumberedType-F}
use Rattle.hir_types.specs.declared.types.HirType.{HirType}
use Rattle.hir_form.specs.Forms.{Generics, shape_form}
use Rattle.hir_form.specs.Makers.{Makers}

-- an accepted type that is no callback has one path at most, behind references, boxes, options and slices: what that path
-- gives its definition
abbrev pub generics_step : NumberedType-F Generics → Generics
generics_step (NumberedType-F.Named t) = t.lifetimes
generics_step (NumberedType-F.SelfType t) = t.lifetimes
generics_step (NumberedType-F.ImplTrait t) = t.lifetimes
generics_step (NumberedType-F.Reference _ _ t) = t
generics_step (NumberedType-F.Box t) = t
generics_step (NumberedType-F.Option t _) = t
generics_step (NumberedType-F.CustomTypeSlice _ t _) = t
generics_step _ = []

abbrev pub generics_in : NumberedType → Generics
generics_in ty = fold-NumberedType Generics generics_step ty

-- a type stands for what its shape does
abbrev pub type_form : {P C O I S T : Type 0} → Makers O S T → Catalog → NumberedType → Option (HirType P C O I S T)
type_form m catalog ty = shape_form m (generics_in ty) (shape_of catalog ty)
