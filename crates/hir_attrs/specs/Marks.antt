-- The marks that aren't those of special methods: one row a mark, by its name, its flag, what it takes and what it sets.
use Rattle.std.specs.Prelude.{ℕ, List, [], ◌∷◌, codes, Bool, true, false, Option, Some, None}
use Rattle.std.specs.List.{find}
use Rattle.std.specs.Str.{bytes_eq}
use Rattle.hir_backends.specs.declared.support.flag.SupportFlag.{SupportFlag}
use Rattle.hir_backends.specs.declared.support.flag.SupportFlag.TheVariants as flag
use Rattle.hir_attrs.specs.declared.attrs.Attrs.{Attrs}
use Rattle.hir_attrs.specs.declared.names.Form.{Form}
use Rattle.hir_attrs.specs.declared.names.Form.TheVariants as form
use Rattle.hir_attrs.specs.declared.names.MarkName.{MarkName}
use Rattle.hir_attrs.specs.declared.names.MarkName.TheVariants as mark

-- its name
unfoldable pub mark_text : MarkName → List ℕ
mark_text mark.Disable = codes "disable"
mark_text mark.Default = codes "default"
mark_text mark.ManuallyDisposable = codes "manually_disposable"
mark_text mark.Rename = codes "rename"
mark_text mark.Namespace = codes "namespace"
mark_text mark.Error = codes "error"
mark_text mark.PreconditionViolation = codes "precondition_violation"
mark_text mark.GenerateMockingInterface = codes "generate_mocking_interface"
mark_text mark.AbiCompatible = codes "abi_compatible"
mark_text mark.FfiError = codes "ffi_error"
mark_text mark.MutStructRef = codes "mut_struct_ref"
mark_text mark.Tuple = codes "tuple"
mark_text mark.CustomExtraCode = codes "custom_extra_code"
mark_text mark.DefaultValue = codes "default_value"

-- all marks
unfoldable pub every_mark : List MarkName
every_mark =
    mark.Disable
    ∷ mark.Default
    ∷ mark.ManuallyDisposable
    ∷ mark.Rename
    ∷ mark.Namespace
    ∷ mark.Error
    ∷ mark.PreconditionViolation
    ∷ mark.GenerateMockingInterface
    ∷ mark.AbiCompatible
    ∷ mark.FfiError
    ∷ mark.MutStructRef
    ∷ mark.Tuple
    ∷ mark.CustomExtraCode
    ∷ mark.DefaultValue
    ∷ []

abbrev pub is_mark_called : List ℕ → MarkName → Bool
is_mark_called name it = bytes_eq (mark_text it) name

-- the mark of a name, if there is one
abbrev pub mark_named : List ℕ → Option MarkName
mark_named name = find (is_mark_called name) every_mark

-- the flag that a backend needs for it, where it needs one
unfoldable pub mark_flag : MarkName → Option SupportFlag
mark_flag mark.Disable = None
mark_flag mark.Default = None
mark_flag mark.ManuallyDisposable = None
mark_flag mark.Rename = None
mark_flag mark.Namespace = None
mark_flag mark.Error = None
mark_flag mark.PreconditionViolation = None
mark_flag mark.GenerateMockingInterface = Some flag.GenerateMockingInterface
mark_flag mark.AbiCompatible = Some flag.AbiCompatibles
mark_flag mark.FfiError = Some flag.CallbackReturnsMustBeFallible
mark_flag mark.MutStructRef = Some flag.MutStructRefs
mark_flag mark.Tuple = Some flag.Tuples
mark_flag mark.CustomExtraCode = None
mark_flag mark.DefaultValue = Some flag.DefaultArgs

-- what it takes as its argument, and what it does
unfoldable pub mark_form : MarkName → Form
mark_form mark.Disable = form.Once
mark_form mark.Default = form.Once
mark_form mark.ManuallyDisposable = form.Once
mark_form mark.Rename = form.Pattern
mark_form mark.Namespace = form.Text
mark_form mark.Error = form.Plain
mark_form mark.PreconditionViolation = form.Plain
mark_form mark.GenerateMockingInterface = form.Plain
mark_form mark.AbiCompatible = form.Plain
mark_form mark.FfiError = form.Plain
mark_form mark.MutStructRef = form.Plain
mark_form mark.Tuple = form.Plain
mark_form mark.CustomExtraCode = form.Include
mark_form mark.DefaultValue = form.Value

-- whether it can't stand under `auto`
unfoldable pub refuses_auto : MarkName → Bool
refuses_auto mark.Disable = true
refuses_auto mark.Default = false
refuses_auto mark.ManuallyDisposable = true
refuses_auto mark.Rename = true
refuses_auto mark.Namespace = false
refuses_auto mark.Error = false
refuses_auto mark.PreconditionViolation = false
refuses_auto mark.GenerateMockingInterface = false
refuses_auto mark.AbiCompatible = false
refuses_auto mark.FfiError = false
refuses_auto mark.MutStructRef = false
refuses_auto mark.Tuple = false
refuses_auto mark.CustomExtraCode = false
refuses_auto mark.DefaultValue = false

-- whether its field is set in a set of marks
unfoldable pub is_set : MarkName → Attrs → Bool
is_set mark.Disable attrs = attrs.disable
is_set mark.Default attrs = attrs.default
is_set mark.ManuallyDisposable attrs = attrs.manually_disposable
is_set mark.Rename attrs = false
is_set mark.Namespace attrs = false
is_set mark.Error attrs = attrs.custom_errors
is_set mark.PreconditionViolation attrs = attrs.precondition_violation
is_set mark.GenerateMockingInterface attrs = attrs.generate_mocking_interface
is_set mark.AbiCompatible attrs = attrs.abi_compatible
is_set mark.FfiError attrs = attrs.ffi_error
is_set mark.MutStructRef attrs = attrs.mut_struct_ref
is_set mark.Tuple attrs = attrs.tuple
is_set mark.CustomExtraCode attrs = false
is_set mark.DefaultValue attrs = false

-- a set with its field set besides
unfoldable pub with_mark : MarkName → Attrs → Attrs
with_mark mark.Disable attrs = record attrs { disable = true }
with_mark mark.Default attrs = record attrs { default = true }
with_mark mark.ManuallyDisposable attrs = record attrs { manually_disposable = true }
with_mark mark.Rename attrs = attrs
with_mark mark.Namespace attrs = attrs
with_mark mark.Error attrs = record attrs { custom_errors = true }
with_mark mark.PreconditionViolation attrs = record attrs { precondition_violation = true }
with_mark mark.GenerateMockingInterface attrs = record attrs { generate_mocking_interface = true }
with_mark mark.AbiCompatible attrs = record attrs { abi_compatible = true }
with_mark mark.FfiError attrs = record attrs { ffi_error = true }
with_mark mark.MutStructRef attrs = record attrs { mut_struct_ref = true }
with_mark mark.Tuple attrs = record attrs { tuple = true }
with_mark mark.CustomExtraCode attrs = attrs
with_mark mark.DefaultValue attrs = attrs
