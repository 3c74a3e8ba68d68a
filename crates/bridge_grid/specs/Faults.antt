-- What is wrong in a type where it stands: the faults of its shape, and where there are none those of what stands inside.
use Rattle.std.specs.Prelude.{List, [], ◌∷◌, Option, Some, None}
use Rattle.hir_backends.specs.declared.support.BackendAttrSupport.{BackendAttrSupport}
use Rattle.hir_number.specs.declared.numbered.NumberedType.{NumberedType}
use Rattle.bridge_order.specs.declared.catalog.Catalog.{Catalog}
use Rattle.bridge_rules.specs.declared.position.Position.{Position}
use Rattle.bridge_rules.specs.declared.shape.Element.TheVariants as element
use Rattle.bridge_rules.specs.declared.shape.Shape.{Shape}
use Rattle.bridge_rules.specs.declared.shape.Shape.TheVariants as shape
use Rattle.bridge_rules.specs.Shapes.{shape_of}
use Rattle.bridge_rules.specs.Table.{cell_of}
use Rattle.bridge_grid.specs.declared.fault.TypeFault.{TypeFault}
use Rattle.bridge_grid.specs.declared.part.Part.{Part}
use Rattle.bridge_grid.specs.declared.part.Part.TheVariants.{Whole, Inside, Error}
use Rattle.bridge_grid.specs.Asked.{cell_faults}

-- a shape that is refused isn't looked into
abbrev pub or_inside : List TypeFault → List TypeFault → List TypeFault
or_inside [] inside = inside
or_inside (f ∷ fs) inside = f ∷ fs

-- what stands inside a shape
abbrev pub shape_inside : Shape → Option Shape
shape_inside (shape.OptionOfValue v _) = Some (shape.Value v)
shape_inside (shape.OptionOfFlat f) = Some (shape.Flat f)
shape_inside (shape.Slice _ (element.Value v)) = Some (shape.Value v)
shape_inside _ = None

-- what stands in an option of the whole is inside
abbrev pub in_option : Part → Part
in_option Whole = Inside
in_option Inside = Inside
in_option Error = Error

-- an element of a slice is inside where the slice is
abbrev pub part_inside : Shape → Part → Part
part_inside (shape.Slice _ _) part = part
part_inside _ part = in_option part

abbrev pub inside_shape_faults : BackendAttrSupport → Position → Part → Option Shape → List TypeFault
inside_shape_faults support at part (Some s) = cell_faults support part (cell_of s at)
inside_shape_faults support at part None = []

abbrev pub shape_faults : BackendAttrSupport → Position → Part → Shape → List TypeFault
shape_faults support at part s = or_inside (cell_faults support part (cell_of s at))
    (inside_shape_faults support at (part_inside s part) (shape_inside s))

-- what is wrong in a part of a type, where the type stands
abbrev pub type_faults : BackendAttrSupport → Catalog → Position → Part → NumberedType → List TypeFault
type_faults support catalog at part ty = shape_faults support at part (shape_of catalog ty)
