-- What a declaration's marks come to for a backend, and which rules they break.
use Rattle.std.specs.Prelude.{ℕ, List, [], ◌∷◌, ◌++◌, Bool, true, false, ◌&&◌, ◌||◌, not, Option, Some, None, option_to_list, if◌then◌else◌, nat_le, is_some}
use Rattle.std.specs.List.{list_any}
use Rattle.bridge_text.specs.Rename.{placeholder_count}
use Rattle.bridge_decl.specs.declared.attrs.Attrs.{Attrs as Declared}
use Rattle.bridge_decl.specs.declared.attrs.DiplomatBackendAttr.{DiplomatBackendAttr}
use Rattle.bridge_decl.specs.declared.attrs.Lit.{Lit}
use Rattle.bridge_decl.specs.declared.attrs.Lit.TheVariants.{Str}
use Rattle.bridge_decl.specs.declared.attrs.MetaValue.{MetaValue}
use Rattle.bridge_decl.specs.declared.attrs.MetaValue.TheVariants.{Empty, Literal}
use Rattle.hir_reports.specs.Texts.{plain_error}
use Rattle.hir_reports.specs.declared.report.LoweringError.{LoweringError}
use Rattle.hir_reports.specs.declared.rule.Rule.{Rule}
use Rattle.hir_reports.specs.declared.rule.Rule.TheVariants as rule
use Rattle.hir_backends.specs.Backend.{Backend}
use Rattle.hir_backends.specs.Conditions.{condition_met, fault_rule}
use Rattle.hir_backends.specs.Support.{checked, flag_on}
use Rattle.hir_backends.specs.declared.conditions.Met.{Met}
use Rattle.hir_backends.specs.declared.conditions.Met.TheVariants.{Holds, Fails, Faulty}
use Rattle.hir_backends.specs.declared.support.flag.SupportFlag.{SupportFlag}
use Rattle.hir_attrs.specs.Includes.{include_of, is_location_called, location_word}
use Rattle.hir_attrs.specs.Marks.{mark_text, mark_named, mark_flag, mark_form, refuses_auto, is_set, with_mark}
use Rattle.hir_attrs.specs.Special.{SpecialReading, special_reading}
use Rattle.hir_attrs.specs.Values.{default_of}
use Rattle.hir_attrs.specs.declared.attrs.Attrs.{Attrs}
use Rattle.hir_attrs.specs.declared.change.Change.{Change}
use Rattle.hir_attrs.specs.declared.change.Change.TheVariants as change
use Rattle.hir_attrs.specs.declared.change.Reading.{Reading}
use Rattle.hir_attrs.specs.declared.includes.IncludeLocation.{IncludeLocation}
use Rattle.hir_attrs.specs.declared.includes.IncludeSource.{IncludeSource}
use Rattle.hir_attrs.specs.declared.names.Form.{Form}
use Rattle.hir_attrs.specs.declared.names.Form.TheVariants as form
use Rattle.hir_attrs.specs.declared.names.MarkName.{MarkName}
use Rattle.hir_attrs.specs.declared.names.MarkName.TheVariants as mark
use Rattle.hir_attrs.specs.declared.special.SpecialMethod.{SpecialMethod}
use Rattle.hir_attrs.specs.declared.values.DefaultArgValue.{DefaultArgValue}

-- ---- what a mark changes

-- a set of marks after a change
abbrev pub changed : Change → Attrs → Attrs
changed change.Nothing attrs = attrs
changed (change.Marks it) attrs = with_mark it attrs
changed (change.Renames pattern) attrs = record attrs { rename = pattern }
changed (change.Names namespace) attrs = record attrs { namespace = namespace }
changed (change.Specializes it) attrs = record attrs { special_method = Some it }
changed (change.Includes it code) attrs = record attrs { custom_extra_code = attrs.custom_extra_code ++ (it, code) ∷ [] }
changed (change.Defaults value) attrs = record attrs { default_value = Some value }

-- ---- what a mark is read as: a change, and up to two broken rules in order

abbrev pub change_alone : Change → Reading
change_alone it = record { change = it; first = None; second = None }

-- a mark that is skipped, without a report or with one
abbrev pub skipped : Reading
skipped = change_alone change.Nothing

abbrev pub error_alone : LoweringError → Reading
error_alone error = record { change = change.Nothing; first = Some error; second = None }

-- a broken rule about a mark of that name
abbrev pub about : Rule → List ℕ → LoweringError
about broken name = record { rule = broken; args = name ∷ [] }

abbrev pub reading_errors : Reading → List LoweringError
reading_errors reading = option_to_list reading.first ++ option_to_list reading.second

abbrev pub when : Bool → LoweringError → Option LoweringError
when true error = Some error
when false error = None

-- a mark that the backend doesn't support; under `auto` it is left out without a report
abbrev pub unsupported : Backend → Bool → List ℕ → Reading
unsupported backend true name = skipped
unsupported backend false name = error_alone (record { rule = rule.MarkUnsupported; args = name ∷ backend.primary_name ∷ [] })

abbrev pub wrong_argument : List ℕ → Reading
wrong_argument name = error_alone (about rule.MarkArgument name)

-- ---- special methods: one a method, the first

abbrev pub specialized : Option SpecialMethod → List ℕ → SpecialMethod → Reading
specialized None name it = change_alone (change.Specializes it)
specialized (Some earlier) name it = error_alone (about rule.SecondSpecial name)

-- ---- the other marks, by what they take

abbrev pub no_argument : MetaValue → Bool
no_argument Empty = true
no_argument _ = false

abbrev pub text_in : MetaValue → Option (List ℕ)
text_in (Literal (Str text)) = Some text
text_in _ = None

-- a pattern has one place for the name at most
abbrev pub renaming_pattern : Option (List ℕ) → Option (List ℕ)
renaming_pattern None = None
renaming_pattern (Some text) = if nat_le (placeholder_count text) 1 then Some text else None

abbrev pub literal_in : MetaValue → Option Lit
literal_in (Literal it) = Some it
literal_in _ = None

-- a mark that stands once; it is set also where it was
abbrev pub read_once : Bool → Attrs → MarkName → MetaValue → Reading
read_once by_auto attrs it value =
    if no_argument value
    then record { change = change.Marks it; first = when (is_set it attrs) (about rule.MarkRepeated (mark_text it)); second = when (by_auto && refuses_auto it) (about rule.AutoIneligible (mark_text it)) }
    else wrong_argument (mark_text it)

abbrev pub renamed : Bool → MarkName → Option (List ℕ) → Reading
renamed by_auto it None = wrong_argument (mark_text it)
renamed by_auto it (Some pattern) = record { change = change.Renames (Some pattern); first = when (by_auto && refuses_auto it) (about rule.AutoIneligible (mark_text it)); second = None }

-- the empty text clears the namespace
abbrev pub space_of : List ℕ → Option (List ℕ)
space_of [] = None
space_of (c ∷ cs) = Some (c ∷ cs)

abbrev pub spaced : MarkName → Option (List ℕ) → Reading
spaced it None = wrong_argument (mark_text it)
spaced it (Some text) = change_alone (change.Names (space_of text))

-- whether a place has its code already
abbrev pub has_location : IncludeLocation → List (IncludeLocation × IncludeSource) → Bool
has_location it includes = list_any (λ include. is_location_called (location_word it) include.0) includes

abbrev pub included : Attrs → Option (IncludeLocation × IncludeSource) → Reading
included attrs None = error_alone (plain_error rule.BadInclude)
included attrs (Some pair) = if has_location pair.0 attrs.custom_extra_code then error_alone (plain_error rule.IncludeRepeated) else change_alone (change.Includes pair.0 pair.1)

abbrev pub valued : Option DefaultArgValue → Reading
valued None = error_alone (plain_error rule.BadDefaultValue)
valued (Some value) = change_alone (change.Defaults value)

abbrev pub defaulted : MarkName → Option Lit → Reading
defaulted it None = wrong_argument (mark_text it)
defaulted it (Some literal) = valued (default_of literal)

abbrev pub read_form : Form → Bool → Attrs → MarkName → MetaValue → Reading
read_form form.Once by_auto attrs it value = read_once by_auto attrs it value
read_form form.Plain by_auto attrs it value = change_alone (change.Marks it)
read_form form.Pattern by_auto attrs it value = renamed by_auto it (renaming_pattern (text_in value))
read_form form.Text by_auto attrs it value = spaced it (text_in value)
read_form form.Include by_auto attrs it value = included attrs (include_of value)
read_form form.Value by_auto attrs it value = defaulted it (literal_in value)

-- whether a flag that is needed is off
abbrev pub is_denied : Backend → Option SupportFlag → Bool
is_denied backend None = false
is_denied backend (Some it) = not (flag_on backend.supports it)

-- a name that no special method has
abbrev pub read_name : Backend → Bool → Attrs → List ℕ → MetaValue → Option MarkName → Reading
read_name backend by_auto attrs name value None = error_alone (about rule.UnknownMark name)
read_name backend by_auto attrs name value (Some it) = if is_denied backend (mark_flag it) then unsupported backend by_auto name else read_form (mark_form it) by_auto attrs it value

abbrev pub read_special : Backend → Bool → Attrs → List ℕ → MetaValue → SpecialReading → Reading
read_special backend by_auto attrs name value SpecialReading.Ordinary = read_name backend by_auto attrs name value (mark_named name)
read_special backend by_auto attrs name value SpecialReading.WrongArgument = wrong_argument name
read_special backend by_auto attrs name value (SpecialReading.Special it) = specialized attrs.special_method name it

-- a name for which `check_string` is false isn't looked at further
abbrev pub is_refused : Option Bool → Bool
is_refused None = false
is_refused (Some supported) = not supported

abbrev pub read_named : Backend → Bool → Attrs → List ℕ → MetaValue → Reading
read_named backend by_auto attrs name value =
    if is_refused (checked backend.supports name) then unsupported backend by_auto name else read_special backend by_auto attrs name value (special_reading name value)

-- a path that hasn't exactly one segment is skipped
abbrev pub read_path : Backend → Bool → Attrs → List (List ℕ) → MetaValue → Reading
read_path backend by_auto attrs (name ∷ []) value = read_named backend by_auto attrs name value
read_path backend by_auto attrs _ value = skipped

-- a mark counts where its condition is met; `auto` is allowed in it
abbrev pub read_met : Backend → Attrs → DiplomatBackendAttr → Met → Reading
read_met backend attrs it (Holds by_auto) = read_path backend by_auto attrs it.meta.path it.meta.value
read_met backend attrs it Fails = skipped
read_met backend attrs it (Faulty fault) = error_alone (plain_error (fault_rule fault))

abbrev pub read_mark : Backend → Attrs → DiplomatBackendAttr → Reading
read_mark backend attrs it = read_met backend attrs it (condition_met backend it.cfg true)

-- ---- the marks of a declaration, in order

abbrev pub marks_from : Backend → Attrs → List DiplomatBackendAttr → Attrs
marks_from backend attrs [] = attrs
marks_from backend attrs (it ∷ marks) = marks_from backend (changed (read_mark backend attrs it).change attrs) marks

abbrev pub errors_from : Backend → Attrs → List DiplomatBackendAttr → List LoweringError
errors_from backend attrs [] = []
errors_from backend attrs (it ∷ marks) = reading_errors (read_mark backend attrs it) ++ errors_from backend (changed (read_mark backend attrs it).change attrs) marks

-- the set that a declaration begins with: that of its parent, and its own notes and features
abbrev pub first_set : Backend → Declared → Attrs → Attrs
first_set backend declared parent = record parent { abi_rename = declared.abi_rename; deprecated = declared.deprecated; unstable = parent.unstable || list_any backend.is_unstable declared.features }

-- the set of a declaration, and the rules that its marks break
abbrev pub marks_of : Backend → Declared → Attrs → Attrs
marks_of backend declared parent = marks_from backend (first_set backend declared parent) declared.marks

abbrev pub marks_errors : Backend → Declared → Attrs → List LoweringError
marks_errors backend declared parent = errors_from backend (first_set backend declared parent) declared.marks
