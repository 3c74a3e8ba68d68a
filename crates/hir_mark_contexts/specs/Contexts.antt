-- Where marks may stand. A context is the kind of what is marked.
use Rattle.std.specs.Prelude.{Bool, true, false, not, ◌&&◌, ◌||◌}
use Rattle.hir_attrs.specs.declared.attrs.Attrs.{Attrs}
use Rattle.hir_attrs.specs.declared.names.MarkName.{MarkName}
use Rattle.hir_attrs.specs.declared.names.MarkName.TheVariants as mark
use Rattle.hir_mark_contexts.specs.declared.contexts.MarkContext.{MarkContext}
use Rattle.hir_mark_contexts.specs.declared.contexts.MarkContext.TheVariants as context

-- whether a set is tested there: fields of out-structs aren't, nor is a disabled method
unfoldable pub is_tested : MarkContext → Attrs → Bool
is_tested context.OutStructField attrs = false
is_tested context.Method attrs = not attrs.disable
is_tested _ attrs = true

-- ---- kinds of contexts

-- a type, a trait or a function
abbrev pub is_item : MarkContext → Bool
is_item context.Struct = true
is_item context.OutStruct = true
is_item context.Opaque = true
is_item context.Enum = true
is_item context.Trait = true
is_item context.Function = true
is_item _ = false

abbrev pub is_struct : MarkContext → Bool
is_struct context.Struct = true
is_struct _ = false

abbrev pub is_out_struct : MarkContext → Bool
is_out_struct context.OutStruct = true
is_out_struct _ = false

abbrev pub is_opaque : MarkContext → Bool
is_opaque context.Opaque = true
is_opaque _ = false

abbrev pub is_enum : MarkContext → Bool
is_enum context.Enum = true
is_enum _ = false

abbrev pub is_trait : MarkContext → Bool
is_trait context.Trait = true
is_trait _ = false

abbrev pub is_variant : MarkContext → Bool
is_variant context.EnumVariant = true
is_variant _ = false

abbrev pub is_method : MarkContext → Bool
is_method context.Method = true
is_method _ = false

abbrev pub is_param : MarkContext → Bool
is_param context.Param = true
is_param _ = false

abbrev pub is_field : MarkContext → Bool
is_field context.Field = true
is_field _ = false

-- what backends call by a name
abbrev pub may_be_renamed : MarkContext → Bool
may_be_renamed it = is_item it || (is_method it || is_variant it)

-- ---- the table: where each mark may stand

unfoldable pub allows : MarkName → MarkContext → Bool
allows mark.Disable it = is_item it || is_method it
allows mark.Default it = is_variant it
allows mark.ManuallyDisposable it = is_opaque it
allows mark.Rename it = may_be_renamed it
allows mark.Namespace it = is_item it
allows mark.Error it = is_item it
allows mark.PreconditionViolation it = true
allows mark.GenerateMockingInterface it = is_opaque it
allows mark.AbiCompatible it = is_struct it || is_enum it
allows mark.FfiError it = is_variant it || is_field it
allows mark.MutStructRef it = is_struct it
allows mark.Tuple it = is_struct it || is_out_struct it
allows mark.CustomExtraCode it = is_item it && not (is_trait it)
allows mark.DefaultValue it = is_param it
