-- The row of the table of positions in which a type stands.
use Rattle.std.specs.Prelude.{ℕ, Bool, true, false, Option, Some, None}
use Rattle.bridge_decl.specs.declared.types.Mutability.{Mutability}
use Rattle.bridge_decl.specs.declared.types.PrimitiveType.{PrimitiveType}
use Rattle.bridge_decl.specs.declared.types.StdlibOrDiplomat.{StdlibOrDiplomat}
use Rattle.bridge_decl.specs.declared.types.StringEncoding.{StringEncoding}
use Rattle.hir_life.specs.declared.maybe_static.MaybeStatic.{MaybeStatic}
use Rattle.hir_ids.specs.declared.owners.Borrow.{Borrow}
use Rattle.hir_number.specs.declared.numbered.NumberedType.{NumberedType, out-NumberedType}
use Rattle.hir_number.specs.declared.numbered.NumberedType.TheOpen.{NumberedType-F}
use Rattle.bridge_order.specs.declared.catalog.Catalog.{Catalog}
use Rattle.bridge_order.specs.declared.catalog.Entry.{Entry}
use Rattle.bridge_order.specs.declared.catalog.Entry.TheVariants as entry
use Rattle.bridge_rules.specs.declared.shape.Element.{Element}
use Rattle.bridge_rules.specs.declared.shape.Element.TheVariants as element
use Rattle.bridge_rules.specs.declared.shape.FlatSlice.{FlatSlice}
use Rattle.bridge_rules.specs.declared.shape.FlatSlice.TheVariants as flat
use Rattle.bridge_rules.specs.declared.shape.Shape.{Shape}
use Rattle.bridge_rules.specs.declared.shape.Shape.TheVariants as shape
use Rattle.bridge_rules.specs.declared.shape.Value.{Value}
use Rattle.bridge_rules.specs.declared.shape.Value.TheVariants as value
use Rattle.bridge_order.specs.Catalog.{entry_at, id_of}

-- ---- parts of shapes

abbrev pub struct_value : ℕ → Bool → Value
struct_value id true = value.Struct id
struct_value id false = value.Empty id

abbrev pub out_struct_value : ℕ → Bool → Value
out_struct_value id true = value.OutStruct id
out_struct_value id false = value.EmptyOut id

abbrev pub lent_for : MaybeStatic ℕ → Mutability → Borrow
lent_for l m = record { lifetime = l; mutability = m }

-- without a lifetime a slice is owned
abbrev pub text_slice : Option (MaybeStatic ℕ) → StringEncoding → FlatSlice
text_slice (Some l) e = flat.Str l e
text_slice None e = flat.OwnedStr e

abbrev pub slice_of_primitives : Option (MaybeStatic ℕ × Mutability) → PrimitiveType → FlatSlice
slice_of_primitives (Some b) p = flat.Primitives (lent_for b.0 b.1) p
slice_of_primitives None p = flat.OwnedPrimitives p

abbrev pub slice_borrow : Option (MaybeStatic ℕ × Mutability) → Option Borrow
slice_borrow (Some b) = Some (lent_for b.0 b.1)
slice_borrow None = None

-- what a type names, where it is a name
abbrev pub level_entry : Catalog → NumberedType-F NumberedType → Option Entry
level_entry catalog (NumberedType-F.Named t) = Some (entry_at catalog t.place)
level_entry catalog (NumberedType-F.SelfType t) = Some (entry_at catalog t.place)
level_entry catalog _ = None

abbrev pub named_entry : Catalog → NumberedType → Option Entry
named_entry catalog ty = level_entry catalog (out-NumberedType ty)

-- ---- names, references and boxes

abbrev pub item_shape : Entry → Shape
item_shape (entry.Struct id has_fields) = shape.Value (struct_value id has_fields)
item_shape (entry.OutStruct id has_fields) = shape.Value (out_struct_value id has_fields)
item_shape (entry.Opaque id mark) = shape.Opaque
item_shape (entry.Enum id) = shape.Value (value.Enum id)
item_shape (entry.Trait id) = shape.ImplTrait id
item_shape (entry.Function id) = shape.Value (value.Enum id)

abbrev pub reference_shape : Borrow → Option Entry → Shape
reference_shape b (Some (entry.Opaque id mark)) = shape.OpaqueReference b id mark
reference_shape b (Some (entry.Struct id has_fields)) = shape.StructReference b id
reference_shape b (Some (entry.OutStruct id has_fields)) = shape.OutStructReference b id
reference_shape b _ = shape.OtherReference

abbrev pub box_shape : Option Entry → Shape
box_shape (Some (entry.Opaque id mark)) = shape.OpaqueBox id
box_shape _ = shape.OtherBox

-- ---- options

abbrev pub option_of_item : Entry → StdlibOrDiplomat → Shape
option_of_item (entry.Struct id has_fields) d = shape.OptionOfValue (struct_value id has_fields) d
option_of_item (entry.OutStruct id has_fields) d = shape.OptionOfValue (out_struct_value id has_fields) d
option_of_item (entry.Opaque id mark) d = shape.Opaque
option_of_item (entry.Enum id) d = shape.OptionOfValue (value.Enum id) d
option_of_item (entry.Trait id) d = shape.OtherOption
option_of_item (entry.Function id) d = shape.OptionOfValue (value.Enum id) d

abbrev pub option_of_reference : Borrow → Option Entry → StdlibOrDiplomat → Shape
option_of_reference b (Some (entry.Opaque id mark)) d = shape.OptionOfReference b id d
option_of_reference b _ d = shape.OptionOfPointer

abbrev pub option_of_box : Option Entry → StdlibOrDiplomat → Shape
option_of_box (Some (entry.Opaque id mark)) d = shape.OptionOfBox id d
option_of_box _ d = shape.OptionOfPointer

abbrev pub level_option : Catalog → StdlibOrDiplomat → NumberedType-F NumberedType → Shape
level_option catalog d (NumberedType-F.Primitive p) = shape.OptionOfValue (value.Primitive p) d
level_option catalog d (NumberedType-F.Named t) = option_of_item (entry_at catalog t.place) d
level_option catalog d (NumberedType-F.SelfType t) = option_of_item (entry_at catalog t.place) d
level_option catalog d (NumberedType-F.Reference l m t) = option_of_reference (lent_for l m)
    (named_entry catalog t) d
level_option catalog d (NumberedType-F.Box t) = option_of_box (named_entry catalog t) d
level_option catalog d (NumberedType-F.StrSlice e _) = shape.OptionOfStrings e
level_option catalog d (NumberedType-F.StrReference l e _) = shape.OptionOfFlat (text_slice l e)
level_option catalog d (NumberedType-F.PrimitiveSlice b p _) = shape.OptionOfFlat (slice_of_primitives b p)
level_option catalog d _ = shape.OtherOption

-- the shape of an option of a type
abbrev pub option_shape : Catalog → StdlibOrDiplomat → NumberedType → Shape
option_shape catalog d ty = level_option catalog d (out-NumberedType ty)

-- ---- elements of slices

abbrev pub element_item : Entry → Element
element_item (entry.Struct id has_fields) = element.Value (struct_value id has_fields)
element_item (entry.OutStruct id has_fields) = element.Value (out_struct_value id has_fields)
element_item (entry.Opaque id mark) = element.Opaque
element_item (entry.Enum id) = element.Value (value.Enum id)
element_item (entry.Trait id) = element.Other
element_item (entry.Function id) = element.Value (value.Enum id)

abbrev pub element_reference : Borrow → Option Entry → Element
element_reference b (Some (entry.Opaque id mark)) = element.OpaqueReference b id mark
element_reference b _ = element.Other

abbrev pub element_option : Borrow → Option Entry → StdlibOrDiplomat → Element
element_option b (Some (entry.Opaque id mark)) d = element.OpaqueOption b id d
element_option b _ d = element.Other

abbrev pub level_optional_element : Catalog → StdlibOrDiplomat → NumberedType-F NumberedType → Element
level_optional_element catalog d (NumberedType-F.Reference l m t) = element_option (lent_for l m)
    (named_entry catalog t) d
level_optional_element catalog d _ = element.Other

-- what an option of a type is as an element
abbrev pub optional_element : Catalog → StdlibOrDiplomat → NumberedType → Element
optional_element catalog d ty = level_optional_element catalog d (out-NumberedType ty)

abbrev pub level_element : Catalog → NumberedType-F NumberedType → Element
level_element catalog (NumberedType-F.Named t) = element_item (entry_at catalog t.place)
level_element catalog (NumberedType-F.SelfType t) = element_item (entry_at catalog t.place)
level_element catalog (NumberedType-F.Reference l m t) = element_reference (lent_for l m)
    (named_entry catalog t)
level_element catalog (NumberedType-F.Option t d) = optional_element catalog d t
level_element catalog _ = element.Other

-- what a type is as an element
abbrev pub element_of : Catalog → NumberedType → Element
element_of catalog ty = level_element catalog (out-NumberedType ty)

-- ---- the whole

abbrev pub shape_of_level : Catalog → NumberedType-F NumberedType → Shape
shape_of_level catalog (NumberedType-F.Primitive p) = shape.Value (value.Primitive p)
shape_of_level catalog NumberedType-F.Ordering = shape.Ordering
shape_of_level catalog (NumberedType-F.Named t) = item_shape (entry_at catalog t.place)
shape_of_level catalog (NumberedType-F.SelfType t) = item_shape (entry_at catalog t.place)
shape_of_level catalog (NumberedType-F.ImplTrait t) = shape.ImplTrait (id_of (entry_at catalog t.place))
shape_of_level catalog (NumberedType-F.Reference l m t) = reference_shape (lent_for l m) (named_entry catalog t)
shape_of_level catalog (NumberedType-F.Box t) = box_shape (named_entry catalog t)
shape_of_level catalog (NumberedType-F.Option t d) = option_shape catalog d t
shape_of_level catalog (NumberedType-F.Result t e _) = shape.Result
shape_of_level catalog (NumberedType-F.Write w) = shape.Writer
shape_of_level catalog (NumberedType-F.StrReference l e _) = shape.Flat (text_slice l e)
shape_of_level catalog (NumberedType-F.StrSlice e _) = shape.Strings e
shape_of_level catalog (NumberedType-F.PrimitiveSlice b p _) = shape.Flat (slice_of_primitives b p)
shape_of_level catalog (NumberedType-F.CustomTypeSlice b t _) = shape.Slice (slice_borrow b)
    (element_of catalog t)
shape_of_level catalog (NumberedType-F.Function ts t _) = shape.Function
shape_of_level catalog NumberedType-F.Unit = shape.Unit

-- the shape of a type
abbrev pub shape_of : Catalog → NumberedType → Shape
shape_of catalog ty = shape_of_level catalog (out-NumberedType ty)
