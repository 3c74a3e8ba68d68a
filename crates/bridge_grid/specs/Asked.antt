-- What the cells of the table ask, each as the faults of what doesn't meet it.
use Rattle.std.specs.Prelude.{ℕ, List, [], ◌∷◌, ◌++◌, Bool, true, false, not, ◌&&◌, ◌||◌, if◌then◌else◌, Option, Some, None}
use Rattle.bridge_decl.specs.declared.types.Mutability.{Mutability}
use Rattle.bridge_decl.specs.declared.types.Mutability.TheVariants.{Mutable, Immutable}
use Rattle.bridge_decl.specs.declared.types.PrimitiveType.{PrimitiveType}
use Rattle.bridge_decl.specs.declared.types.PrimitiveType.TheVariants as primitive
use Rattle.bridge_decl.specs.declared.types.StdlibOrDiplomat.{StdlibOrDiplomat}
use Rattle.bridge_decl.specs.declared.types.StdlibOrDiplomat.TheVariants.{Stdlib, Diplomat}
use Rattle.hir_life.specs.declared.maybe_static.MaybeStatic.{MaybeStatic}
use Rattle.hir_life.specs.declared.maybe_static.MaybeStatic.TheVariants.{Static, NonStatic}
use Rattle.hir_ids.specs.declared.owners.Borrow.{Borrow}
use Rattle.hir_backends.specs.declared.support.BackendAttrSupport.{BackendAttrSupport}
use Rattle.hir_backends.specs.declared.support.flag.SupportFlag.{SupportFlag}
use Rattle.hir_backends.specs.declared.support.flag.SupportFlag.TheVariants as flag
use Rattle.hir_backends.specs.Support.{flag_on}
use Rattle.hir_reports.specs.declared.rule.Rule.TheVariants as rule
use Rattle.bridge_rules.specs.declared.shape.Element.{Element}
use Rattle.bridge_rules.specs.declared.shape.Element.TheVariants as element
use Rattle.bridge_rules.specs.declared.shape.Value.{Value}
use Rattle.bridge_rules.specs.declared.shape.Value.TheVariants as value
use Rattle.bridge_rules.specs.declared.table.Cell.{Cell}
use Rattle.bridge_rules.specs.declared.table.Cell.TheVariants as cell
use Rattle.bridge_grid.specs.declared.fault.TypeFault.{TypeFault}
use Rattle.bridge_grid.specs.declared.fault.TypeFault.TheVariants.{Broken, Denied}
use Rattle.bridge_grid.specs.declared.part.Part.{Part}
use Rattle.bridge_grid.specs.declared.part.Part.TheVariants.{Whole, Inside, Error}

-- ---- tests

abbrev pub is_mutable : Mutability → Bool
is_mutable Mutable = true
is_mutable Immutable = false

abbrev pub is_static : MaybeStatic ℕ → Bool
is_static Static = true
is_static (NonStatic n) = false

abbrev pub is_diplomat : StdlibOrDiplomat → Bool
is_diplomat Diplomat = true
is_diplomat Stdlib = false

abbrev pub is_byte : PrimitiveType → Bool
is_byte primitive.u8 = true
is_byte primitive.byte = true
is_byte _ = false

abbrev pub is_whole : Part → Bool
is_whole Whole = true
is_whole Inside = false
is_whole Error = false

abbrev pub is_error : Part → Bool
is_error Whole = false
is_error Inside = false
is_error Error = true

-- mutable or for 'static
abbrev pub is_fixed : Borrow → Bool
is_fixed b = is_mutable b.mutability || is_static b.lifetime

abbrev pub is_fixed_slice : Option Borrow → Bool
is_fixed_slice (Some b) = is_fixed b
is_fixed_slice None = false

-- ---- faults by tests

abbrev pub told_if : Bool → TypeFault → List TypeFault
told_if is_broken fault = if is_broken then fault ∷ [] else []

abbrev pub denied_if : BackendAttrSupport → Bool → SupportFlag → List TypeFault
denied_if support is_asked flag = told_if (is_asked && not (flag_on support flag)) (Denied flag)

abbrev pub denied : BackendAttrSupport → SupportFlag → List TypeFault
denied support flag = denied_if support true flag

-- ---- what the named cells ask

-- a reference that may be written through is to an opaque that is marked so
abbrev pub mark_faults : Mutability → Mutability → List TypeFault
mark_faults m mark = told_if (is_mutable m && not (is_mutable mark)) (Broken rule.MutOpaqueUnmarked)

-- an option of a pointer to an opaque isn't Diplomat's
abbrev pub of_opaque : StdlibOrDiplomat → List TypeFault
of_opaque d = told_if (is_diplomat d) (Broken rule.DiplomatOptionOpaque)

-- where a box in an option is refused, Diplomat's option of it is told otherwise at the top
abbrev pub of_box : Part → StdlibOrDiplomat → List TypeFault
of_box part d = if is_whole part && is_diplomat d then Broken rule.DiplomatOptionOpaque ∷
    [] else Broken rule.OptionShape ∷ []

-- an option of a value in a struct is Diplomat's
abbrev pub of_value : BackendAttrSupport → StdlibOrDiplomat → List TypeFault
of_value support d = told_if (not (is_diplomat d)) (Broken rule.StdOptionPlace) ++ denied support flag.Option

abbrev pub statics : BackendAttrSupport → MaybeStatic ℕ → List TypeFault
statics support l = denied_if support (is_static l) flag.StaticSlices

abbrev pub muts : BackendAttrSupport → Mutability → List TypeFault
muts support m = denied_if support (is_mutable m) flag.MutableSlices

-- an owned slice of bytes may be returned, but not as an error
abbrev pub bytes : BackendAttrSupport → Part → PrimitiveType → List TypeFault
bytes support part p = if is_byte p && not
    (is_error part) then denied support flag.OwnedByteSliceReturns else Broken rule.OwnedSliceMisplaced ∷ []

-- ---- slices of other types

abbrev pub slice_borrows : BackendAttrSupport → Option Borrow → List TypeFault
slice_borrows support (Some b) = statics support b.lifetime ++ muts support b.mutability
slice_borrows support None = []

abbrev pub opaques_in : BackendAttrSupport → Option Borrow → Borrow → List TypeFault
opaques_in support b e = told_if (is_fixed_slice b || is_fixed e) (Broken rule.OpaqueSliceShape)
    ++ denied support flag.OpaqueSlices

-- a named struct or enum may be an element; what else is asked of it is asked of it as a shape
abbrev pub value_element : Value → List TypeFault
value_element (value.Primitive _) = Broken rule.SliceElement ∷ []
value_element (value.Enum _) = []
value_element (value.Struct _) = []
value_element (value.Empty _) = []
value_element (value.EmptyOut _) = []
value_element (value.OutStruct _) = []

-- an element of what comes in
abbrev pub element_in : BackendAttrSupport → Option Borrow → Element → List TypeFault
element_in support b (element.Value v) = value_element v
element_in support b element.Opaque = Broken rule.OpaqueByValue ∷ []
element_in support b (element.OpaqueReference e _ mark) = mark_faults e.mutability mark
    ++ opaques_in support b e
element_in support b (element.OpaqueOption e _ d) = of_opaque d ++ opaques_in support b e
element_in support b element.Other = Broken rule.SliceElement ∷ []

-- an element of what goes out
abbrev pub element_out : Element → List TypeFault
element_out (element.Value v) = value_element v
element_out element.Opaque = Broken rule.OpaqueByValue ∷ []
element_out (element.OpaqueReference e _ mark) = Broken rule.OpaqueSliceShape ∷ []
element_out (element.OpaqueOption e _ d) = of_opaque d ++ Broken rule.OpaqueSliceShape ∷ []
element_out element.Other = Broken rule.SliceElement ∷ []

-- ---- all cells

abbrev pub cell_faults : BackendAttrSupport → Part → Cell → List TypeFault
cell_faults support part cell.Fine = []
cell_faults support part (cell.Broken r) = Broken r ∷ []
cell_faults support part (cell.UnlessInside r) = told_if (is_whole part) (Broken r)
cell_faults support part (cell.Needs flag) = denied support flag
cell_faults support part cell.Inside = []
cell_faults support part (cell.Marked m mark) = mark_faults m mark
cell_faults support part (cell.OfOpaque d) = of_opaque d
cell_faults support part (cell.OfBox d) = of_box part d
cell_faults support part (cell.OfValue d) = of_value support d
cell_faults support part (cell.Static l m) = statics support l ++ muts support m
cell_faults support part (cell.Mut m) = muts support m
cell_faults support part (cell.Bytes p) = bytes support part p
cell_faults support part (cell.SliceIn b e) = slice_borrows support b ++ element_in support b e
cell_faults support part (cell.SliceOut b e) = slice_borrows support b ++ element_out e
