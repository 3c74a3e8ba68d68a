-- What is told of a type at itself: of how a struct is laid out, and of its fields. A disabled one has none.
use Rattle.std.specs.Prelude.{ℕ, List, [], ◌++◌, Bool, true, false, not, ◌&&◌, ◌||◌, is_some, slice_get}
use Rattle.std.specs.List.{flat_map, list_any}
use Rattle.hir_validation.specs.Tests.{is_some_such}
use Rattle.bridge_telling.specs.Telling.{one_if}
use Rattle.hir_attrs.specs.Reading.{about}
use Rattle.hir_context.specs.Lookups.{DefinedType, InputStruct, defined_at}
use Rattle.hir_context.specs.Lookups as defined
use Rattle.hir_context.specs.declared.parts.Definitions.{Definitions}
use Rattle.hir_definitions.specs.declared.definitions.StructField.{StructField}
use Rattle.hir_ids.specs.declared.owners.Borrow.{Borrow}
use Rattle.hir_reports.specs.declared.report.LoweringError.{LoweringError}
use Rattle.hir_reports.specs.declared.rule.Rule.TheVariants as rule
use Rattle.hir_types.specs.declared.callbacks.NoCallback.{NoCallback}
use Rattle.hir_types.specs.declared.paths.NoTraitPath.{NoTraitPath}
use Rattle.hir_types.specs.declared.paths.StructPath.{StructPath}
use Rattle.hir_types.specs.declared.positions.Everywhere.{Everywhere}
use Rattle.hir_validation.specs.Visited.{is_borrowed, visited_errors}
use Rattle.hir_validation.specs.WholeTypes.{Whole, Primitive, Enum, Opaque, Struct, Slice, Callback, Other, field_whole}

abbrev pub LoweredField : Type 0
LoweredField = StructField Everywhere NoCallback Borrow ℕ StructPath NoTraitPath

-- ---- layout

-- it is a struct that is laid out as in Rust
abbrev pub is_compatible : DefinedType → Bool
is_compatible (defined.Struct def) = def.attrs.abi_compatible
is_compatible (defined.OutStruct def) = false
is_compatible (defined.Opaque def) = false
is_compatible (defined.Enum def) = false

-- a struct with a field of this type can be
abbrev pub keeps_layout : Definitions → Whole → Bool
keeps_layout defs Primitive = true
keeps_layout defs (Enum number) = true
keeps_layout defs (Struct id held given) = is_some_such is_compatible (defined_at defs id)
keeps_layout defs (Opaque number borrow given) = false
keeps_layout defs (Slice element) = false
keeps_layout defs (Callback output) = false
keeps_layout defs Other = false

abbrev pub breaks_layout : Definitions → LoweredField → Bool
breaks_layout defs field = not (keeps_layout defs (field_whole field.ty))

-- its marks say that it is, and it has a lifetime, or a field that can't be in such a struct
abbrev pub has_broken_layout : Definitions → InputStruct → Bool
has_broken_layout defs def = def.attrs.abi_compatible && (is_some (slice_get def.lifetimes.bounds 0) || list_any (breaks_layout defs) def.fields)

abbrev pub layout_errors : Definitions → InputStruct → List LoweringError
layout_errors defs def = one_if (has_broken_layout defs def) (about rule.AbiLayout def.name.0)

-- ---- fields

-- the type is a reference to a struct
abbrev pub is_lent_struct : Whole → Bool
is_lent_struct (Struct id held given) = is_borrowed held
is_lent_struct Primitive = false
is_lent_struct (Enum number) = false
is_lent_struct (Opaque number borrow given) = false
is_lent_struct (Slice element) = false
is_lent_struct (Callback output) = false
is_lent_struct Other = false

-- of a field of this name and this type
abbrev pub field_type_errors : Bool → Definitions → List ℕ → Whole → List LoweringError
field_type_errors must_fail defs name ty = visited_errors must_fail defs ty ++ one_if (is_lent_struct ty) (about rule.FieldBorrow name)

abbrev pub field_errors : Bool → Definitions → LoweredField → List LoweringError
field_errors must_fail defs field = field_type_errors must_fail defs field.name (field_whole field.ty)

-- ---- types: the fields of structs that only go out aren't visited

unfoldable pub type_errors : Bool → Definitions → DefinedType → List LoweringError
type_errors must_fail defs (defined.Struct def) = layout_errors defs def ++ flat_map (field_errors must_fail defs) def.fields
type_errors must_fail defs (defined.OutStruct def) = []
type_errors must_fail defs (defined.Opaque def) = []
type_errors must_fail defs (defined.Enum def) = []
