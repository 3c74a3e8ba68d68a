-- Which marks a set has.
use Rattle.std.specs.Prelude.{List, [], ◌∷◌, Bool, true, false, is_some}
use Rattle.hir_attrs.specs.declared.attrs.Attrs.{Attrs}
use Rattle.hir_attrs.specs.declared.names.MarkName.{MarkName}
use Rattle.hir_attrs.specs.declared.names.MarkName.TheVariants as mark

abbrev pub has_any : {A : Type 0} → List A → Bool
has_any [] = false
has_any (x ∷ xs) = true

-- by a mark, or by what it took over
unfoldable pub has_mark : MarkName → Attrs → Bool
has_mark mark.Disable attrs = attrs.disable
has_mark mark.Default attrs = attrs.default
has_mark mark.ManuallyDisposable attrs = attrs.manually_disposable
has_mark mark.Rename attrs = is_some attrs.rename
has_mark mark.Namespace attrs = is_some attrs.namespace
has_mark mark.Error attrs = attrs.custom_errors
has_mark mark.PreconditionViolation attrs = attrs.precondition_violation
has_mark mark.GenerateMockingInterface attrs = attrs.generate_mocking_interface
has_mark mark.AbiCompatible attrs = attrs.abi_compatible
has_mark mark.FfiError attrs = attrs.ffi_error
has_mark mark.MutStructRef attrs = attrs.mut_struct_ref
has_mark mark.Tuple attrs = attrs.tuple
has_mark mark.CustomExtraCode attrs = has_any attrs.custom_extra_code
has_mark mark.DefaultValue attrs = is_some attrs.default_value
