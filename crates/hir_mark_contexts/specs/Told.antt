-- What is told of a set of marks by its context.
use Rattle.std.specs.Prelude.{List, [], ◌∷◌, ◌++◌, codes, Bool, not, ◌&&◌, Option, Some, None, is_some, if◌then◌else◌}
use Rattle.std.specs.List.{flat_map}
use Rattle.bridge_decl.specs.declared.attrs.Attrs.{Attrs as Declared}
use Rattle.hir_attrs.specs.Marks.{every_mark, mark_text}
use Rattle.hir_attrs.specs.Reading.{about, marks_errors, marks_of}
use Rattle.hir_attrs.specs.Special.{special_kind, special_text}
use Rattle.hir_attrs.specs.declared.attrs.Attrs.{Attrs}
use Rattle.hir_attrs.specs.declared.names.MarkName.{MarkName}
use Rattle.hir_attrs.specs.declared.names.MarkName.TheVariants as mark
use Rattle.hir_attrs.specs.declared.special.SpecialMethod.{SpecialMethod}
use Rattle.hir_backends.specs.Backend.{Backend}
use Rattle.hir_backends.specs.Support.{flag_on}
use Rattle.hir_backends.specs.declared.support.flag.SupportFlag.TheVariants as flag
use Rattle.hir_reports.specs.Texts.{plain_error}
use Rattle.hir_reports.specs.declared.report.LoweringError.{LoweringError}
use Rattle.hir_reports.specs.declared.rule.Rule.TheVariants as rule
use Rattle.hir_mark_contexts.specs.Contexts.{allows, is_method, may_be_renamed, is_tested}
use Rattle.hir_mark_contexts.specs.Sets.{has_mark}
use Rattle.hir_mark_contexts.specs.declared.contexts.MarkContext.{MarkContext}

-- ---- what is misplaced

-- a mark of the table that the set has and that may not stand there
abbrev pub is_misplaced : MarkContext → Attrs → MarkName → Bool
is_misplaced context attrs it = has_mark it attrs && not (allows it context)

abbrev pub misplaced_mark : MarkContext → Attrs → MarkName → List LoweringError
misplaced_mark context attrs it = if is_misplaced context attrs it then about rule.MarkMisplaced (mark_text it) ∷ [] else []

-- each of the table, in its order
abbrev pub misplaced_marks : MarkContext → Attrs → List LoweringError
misplaced_marks context attrs = flat_map (misplaced_mark context attrs) every_mark

-- a special method is one of a type
abbrev pub misplaced_special : MarkContext → Option SpecialMethod → List LoweringError
misplaced_special context None = []
misplaced_special context (Some it) = if not (is_method context) then about rule.MarkMisplaced (special_text (special_kind it)) ∷ [] else []

-- what is exported has a name
abbrev pub misplaced_abi_rename : MarkContext → Attrs → List LoweringError
misplaced_abi_rename context attrs =
    if is_some attrs.abi_rename && not (may_be_renamed context) then about rule.MarkMisplaced (codes "abi_rename") ∷ [] else []

-- ---- what the backend doesn't support

abbrev pub unsupported_includes : Backend → Attrs → List LoweringError
unsupported_includes backend attrs =
    if has_mark mark.CustomExtraCode attrs && not (flag_on backend.supports flag.CustomBindings)
    then plain_error rule.IncludeUnsupported ∷ []
    else []

-- ---- in all

abbrev pub placing_errors : Backend → MarkContext → Attrs → List LoweringError
placing_errors backend context attrs =
    misplaced_marks context attrs
    ++ (misplaced_special context attrs.special_method
    ++ (misplaced_abi_rename context attrs
    ++ unsupported_includes backend attrs))

unfoldable pub context_errors : Backend → MarkContext → Attrs → List LoweringError
context_errors backend context attrs = if is_tested context attrs then placing_errors backend context attrs else []

-- what the marks of a declaration break, which start from this set, and then what the set that they make breaks in its context
unfoldable pub tested_errors : Backend → MarkContext → Declared → Attrs → List LoweringError
tested_errors backend context declared parent =
    marks_errors backend declared parent ++ context_errors backend context (marks_of backend declared parent)
