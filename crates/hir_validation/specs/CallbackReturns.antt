-- What is told of what a callback, or a method of a trait, gives back.
use Rattle.std.specs.Prelude.{List, Bool, false, not, ◌&&◌, slice_get}
use Rattle.std.specs.List.{list_any}
use Rattle.hir_validation.specs.Tests.{is_some_such}
use Rattle.bridge_telling.specs.Telling.{one_if}
use Rattle.hir_context.specs.declared.parts.Definitions.{Definitions}
use Rattle.hir_definitions.specs.declared.definitions.EnumDef.{EnumDef}
use Rattle.hir_definitions.specs.declared.definitions.EnumVariant.{EnumVariant}
use Rattle.hir_reports.specs.Texts.{plain_error}
use Rattle.hir_reports.specs.declared.report.LoweringError.{LoweringError}
use Rattle.hir_reports.specs.declared.rule.Rule.TheVariants as rule
use Rattle.hir_types.specs.Returns.{error_of}
use Rattle.hir_validation.specs.WholeTypes.{CallbackOutput, CalledType, Whole, Primitive, Enum, Opaque, Struct, Slice, Callback, Other, called_whole}

-- a variant of the enum tells an error of the interface itself
abbrev pub is_ffi_error : EnumVariant → Bool
is_ffi_error variant = variant.attrs.ffi_error

abbrev pub has_ffi_error : EnumDef → Bool
has_ffi_error def = list_any is_ffi_error def.variants

-- the type is an enum that has one
abbrev pub tells_interface_errors : Definitions → Whole → Bool
tells_interface_errors defs (Enum number) = is_some_such has_ffi_error (slice_get defs.enums.defs number)
tells_interface_errors defs Primitive = false
tells_interface_errors defs (Opaque number borrow given) = false
tells_interface_errors defs (Struct id held given) = false
tells_interface_errors defs (Slice element) = false
tells_interface_errors defs (Callback output) = false
tells_interface_errors defs Other = false

abbrev pub called_tells : Definitions → CalledType → Bool
called_tells defs ty = tells_interface_errors defs (called_whole ty)

-- its error has such a type
abbrev pub can_fail : Definitions → CallbackOutput → Bool
can_fail defs output = is_some_such (called_tells defs) (error_of output)

-- for a backend whose callbacks must be able to fail, or may not
abbrev pub callback_errors : Bool → Definitions → CallbackOutput → List LoweringError
callback_errors must_fail defs output = one_if (must_fail && not (can_fail defs output)) (plain_error rule.CallbackReturn)
