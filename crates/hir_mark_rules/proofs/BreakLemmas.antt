-- What breaks a rule is told of its mark.
use Rattle.std.proofs.Common.{◌≡◌, ℕ, List, [], ◌∷◌, Bool, true, false, ◌&&◌, cond, Option, Some, None, option_to_list, refl, sym, ap, ◌∙◌, subst}
use Rattle.std.specs.List.{Contains}
use Rattle.std.proofs.lemmas.List.Elements.{Contains-append_left, Contains-append_right}
use Rattle.bridge_telling.proofs.ExactLemmas.{in_first}
use Rattle.bridge_decl.specs.declared.attrs.DiplomatBackendAttr.{DiplomatBackendAttr}
use Rattle.bridge_decl.specs.declared.attrs.MetaValue.{MetaValue}
use Rattle.bridge_decl.specs.declared.attrs.MetaValue.TheVariants.{Empty, Literal, Assignments}
use Rattle.hir_reports.specs.Texts.{plain_error}
use Rattle.hir_reports.specs.declared.report.LoweringError.{LoweringError}
use Rattle.hir_reports.specs.declared.rule.Rule.TheVariants as rule
use Rattle.hir_backends.specs.Backend.{Backend}
use Rattle.hir_attrs.specs.Includes.{include_of}
use Rattle.hir_attrs.specs.Marks.{is_set, mark_form, mark_text, refuses_auto}
use Rattle.hir_attrs.specs.Reading.{about, change_alone, defaulted, error_alone, has_location, included, literal_in, no_argument, read_form, read_mark, read_met, read_special, reading_errors, renamed, spaced, specialized, valued, when, wrong_argument}
use Rattle.hir_attrs.specs.Special.{special_of, special_with}
use Rattle.hir_attrs.specs.declared.attrs.Attrs.{Attrs}
use Rattle.hir_attrs.specs.declared.change.Change.TheVariants as change
use Rattle.hir_attrs.specs.declared.change.Reading.{Reading}
use Rattle.hir_attrs.specs.declared.includes.IncludeLocation.{IncludeLocation}
use Rattle.hir_attrs.specs.declared.includes.IncludeSource.{IncludeSource}
use Rattle.hir_attrs.specs.declared.names.MarkName.{MarkName}
use Rattle.hir_attrs.specs.declared.names.MarkName.TheVariants as mark
use Rattle.hir_mark_rules.specs.Arguments.{Suits}
use Rattle.hir_mark_rules.specs.MarkBreaks.{MarkBreaks}
use Rattle.hir_mark_rules.specs.rules.AutoIneligible.{AutoIneligible, IsNeverAuto}
use Rattle.hir_mark_rules.specs.rules.BadDefaultValue.{BadDefaultValue}
use Rattle.hir_mark_rules.specs.rules.BadInclude.{BadInclude, IsBadInclude}
use Rattle.hir_mark_rules.specs.rules.IncludeRepeated.{IncludeRepeated}
use Rattle.hir_mark_rules.specs.rules.MarkArgument.{MarkArgument}
use Rattle.hir_mark_rules.specs.rules.MarkRepeated.{IsSetOnce, MarkRepeated}
use Rattle.hir_mark_rules.specs.rules.MarkUnsupported.{MarkUnsupported}
use Rattle.hir_mark_rules.specs.rules.SecondSpecial.{SecondSpecial}
use Rattle.hir_mark_rules.proofs.ArgumentLemmas.{is_pattern, literal_absent, not_given, pattern_absent, suits_given, text_inside}
use Rattle.hir_mark_rules.proofs.DefaultLemmas.{no_default}
use Rattle.hir_mark_rules.proofs.IncludeLemmas.{bad_include, no_include, only_location}
use Rattle.hir_mark_rules.proofs.PlaceLemmas.{taken_place}
use Rattle.hir_mark_rules.proofs.ReadingLemmas.{read_as_row, read_as_special, read_denied, read_flag_off, read_unknown}
use Rattle.hir_mark_rules.proofs.ToldLemmas.{once_reading}

in_when : (b : Bool) (error : LoweringError) → b ≡ true → Contains (option_to_list (when b error)) error
in_when b error h = subst (λ t. Contains (option_to_list (when t error)) error) (sym h) (in_first error [])

argument_given : (value : MetaValue) → ¬ (value ≡ Empty) → no_argument value ≡ false
argument_given Empty h = absurd (h refl)
argument_given (Literal literal) h = refl
argument_given (Assignments assigns) h = refl

some_pair : (value : MetaValue) (found : Option (IncludeLocation × IncludeSource)) → include_of value ≡ found → ¬ IsBadInclude value → (pair : IncludeLocation × IncludeSource) × (include_of value ≡ Some pair)
some_pair value None is good = absurd (good (bad_include value is))
some_pair value (Some pair) is good = (pair, is)

module _ (backend : Backend) (attrs : Attrs) (it : DiplomatBackendAttr) where
  told_by : (reading : Reading) (error : LoweringError) → read_mark backend attrs it ≡ reading → Contains (reading_errors reading) error → Contains (reading_errors (read_mark backend attrs it)) error
  told_by reading error is h = subst (λ r. Contains (reading_errors r) error) (sym is) h

  told_alone : (error : LoweringError) → read_mark backend attrs it ≡ error_alone error → Contains (reading_errors (read_mark backend attrs it)) error
  told_alone error is = told_by (error_alone error) error is (in_first error [])

  -- ---- what a row of the table is read as

  once_alone : (by_auto : Bool) (row : MarkName) (value : MetaValue) → value ≡ Empty → cond (no_argument value) (once_reading by_auto attrs row) (wrong_argument (mark_text row)) ≡ once_reading by_auto attrs row
  once_alone by_auto row value empty = ap (λ v. cond (no_argument v) (once_reading by_auto attrs row) (wrong_argument (mark_text row))) empty

  once_wrong : (by_auto : Bool) (row : MarkName) (value : MetaValue) → ¬ (value ≡ Empty) → cond (no_argument value) (once_reading by_auto attrs row) (wrong_argument (mark_text row)) ≡ wrong_argument (mark_text row)
  once_wrong by_auto row value given = ap (λ b. cond b (once_reading by_auto attrs row) (wrong_argument (mark_text row))) (argument_given value given)

  unsuited_form : (by_auto : Bool) (row : MarkName) (value : MetaValue) → ¬ Suits row value → read_form (mark_form row) by_auto attrs row value ≡ wrong_argument (mark_text row)
  unfolding mark_form
  unsuited_form by_auto mark.Disable value h = once_wrong by_auto mark.Disable value h
  unsuited_form by_auto mark.Default value h = once_wrong by_auto mark.Default value h
  unsuited_form by_auto mark.ManuallyDisposable value h = once_wrong by_auto mark.ManuallyDisposable value h
  unsuited_form by_auto mark.Rename value h = ap (λ found. renamed by_auto mark.Rename found) (pattern_absent value h)
  unsuited_form by_auto mark.Namespace value h = ap (λ found. spaced mark.Namespace found) (text_inside value h)
  unsuited_form by_auto mark.Error value h = absurd (h tt)
  unsuited_form by_auto mark.PreconditionViolation value h = absurd (h tt)
  unsuited_form by_auto mark.GenerateMockingInterface value h = absurd (h tt)
  unsuited_form by_auto mark.AbiCompatible value h = absurd (h tt)
  unsuited_form by_auto mark.FfiError value h = absurd (h tt)
  unsuited_form by_auto mark.MutStructRef value h = absurd (h tt)
  unsuited_form by_auto mark.Tuple value h = absurd (h tt)
  unsuited_form by_auto mark.CustomExtraCode value h = absurd (h tt)
  unsuited_form by_auto mark.DefaultValue value h = ap (λ found. defaulted mark.DefaultValue found) (literal_absent value h)

  repeated_form : (by_auto : Bool) (row : MarkName) (value : MetaValue) → IsSetOnce attrs row → Suits row value → (read_form (mark_form row) by_auto attrs row value ≡ once_reading by_auto attrs row) × (is_set row attrs ≡ true)
  unfolding mark_form is_set
  repeated_form by_auto row value (IsSetOnce.disable stands) suits = (once_alone by_auto mark.Disable value suits, stands)
  repeated_form by_auto row value (IsSetOnce.default stands) suits = (once_alone by_auto mark.Default value suits, stands)
  repeated_form by_auto row value (IsSetOnce.manually_disposable stands) suits = (once_alone by_auto mark.ManuallyDisposable value suits, stands)

  in_second : (row : MarkName) (value : MetaValue) (reading : Reading) → reading ≡ once_reading true attrs row → refuses_auto row ≡ true → Contains (reading_errors reading) (about rule.AutoIneligible (mark_text row))
  in_second row value reading is refuses = subst (λ r. Contains (reading_errors r) (about rule.AutoIneligible (mark_text row))) (sym is) (Contains-append_right (option_to_list (when (is_set row attrs) (about rule.MarkRepeated (mark_text row)))) (option_to_list (when (true && refuses_auto row) (about rule.AutoIneligible (mark_text row)))) (about rule.AutoIneligible (mark_text row)) (in_when (true && refuses_auto row) (about rule.AutoIneligible (mark_text row)) refuses))

  ineligible_form : (row : MarkName) (value : MetaValue) → IsNeverAuto row → Suits row value → Contains (reading_errors (read_form (mark_form row) true attrs row value)) (about rule.AutoIneligible (mark_text row))
  unfolding mark_form refuses_auto
  ineligible_form row value IsNeverAuto.disable suits = in_second mark.Disable value (read_form (mark_form mark.Disable) true attrs mark.Disable value) (once_alone true mark.Disable value suits) refl
  ineligible_form row value IsNeverAuto.manually_disposable suits = in_second mark.ManuallyDisposable value (read_form (mark_form mark.ManuallyDisposable) true attrs mark.ManuallyDisposable value) (once_alone true mark.ManuallyDisposable value suits) refl
  ineligible_form row value IsNeverAuto.rename suits = subst (λ r. Contains (reading_errors r) (about rule.AutoIneligible (mark_text mark.Rename))) (sym (ap (λ found. renamed true mark.Rename found) (is_pattern value suits))) (in_first (about rule.AutoIneligible (mark_text mark.Rename)) [])

  include_form : (by_auto : Bool) (value : MetaValue) → read_form (mark_form mark.CustomExtraCode) by_auto attrs mark.CustomExtraCode value ≡ included attrs (include_of value)
  unfolding mark_form
  include_form by_auto value = refl

  value_form : (by_auto : Bool) (value : MetaValue) → read_form (mark_form mark.DefaultValue) by_auto attrs mark.DefaultValue value ≡ defaulted mark.DefaultValue (literal_in value)
  unfolding mark_form
  value_form by_auto value = refl

  -- ---- each rule

  unsupported_breaks : (name : List ℕ) → MarkUnsupported backend it name → Contains (reading_errors (read_mark backend attrs it)) (record { rule = rule.MarkUnsupported; args = name ∷ backend.primary_name ∷ [] })
  unsupported_breaks name (MarkUnsupported.denied_name counts denies) = told_alone (record { rule = rule.MarkUnsupported; args = name ∷ backend.primary_name ∷ [] }) (read_denied backend attrs it false name counts denies)
  unsupported_breaks name (MarkUnsupported.denied_flag row read called denies) = told_alone (record { rule = rule.MarkUnsupported; args = name ∷ backend.primary_name ∷ [] }) (read_flag_off backend attrs it false name row read called denies)

  second_breaks : (name : List ℕ) → SecondSpecial backend attrs it name → Contains (reading_errors (read_mark backend attrs it)) (about rule.SecondSpecial name)
  second_breaks name h = let given = suits_given h.kind it.meta.value h.suits in
      told_alone (about rule.SecondSpecial name) (
      read_as_special backend attrs it h.special.by_auto name h.kind h.special.taken h.special.called
      ∙ ap (λ g. read_special backend h.special.by_auto attrs name it.meta.value (special_with h.kind g)) given.1
      ∙ ap (λ earlier. specialized earlier name (special_of h.kind given.0)) h.stands
      )

  argument_breaks : (name : List ℕ) → MarkArgument backend it name → Contains (reading_errors (read_mark backend attrs it)) (about rule.MarkArgument name)
  argument_breaks name (MarkArgument.of_special kind special unsuits) = told_alone (about rule.MarkArgument name) (
      read_as_special backend attrs it special.by_auto name kind special.taken special.called
      ∙ ap (λ g. read_special backend special.by_auto attrs name it.meta.value (special_with kind g)) (not_given kind it.meta.value unsuits)
      )
  argument_breaks name (MarkArgument.of_row row by_auto is unsuits) = subst (λ n. Contains (reading_errors (read_mark backend attrs it)) (about rule.MarkArgument n)) (sym is.called) (
      told_alone (about rule.MarkArgument (mark_text row)) (read_as_row backend attrs it by_auto name row is ∙ unsuited_form by_auto row it.meta.value unsuits)
      )

  repeated_breaks : (name : List ℕ) → MarkRepeated backend attrs it name → Contains (reading_errors (read_mark backend attrs it)) (about rule.MarkRepeated name)
  repeated_breaks name h = let form = repeated_form h.by_auto h.row it.meta.value h.stands h.suits in
      subst (λ n. Contains (reading_errors (read_mark backend attrs it)) (about rule.MarkRepeated n)) (sym h.is_row.called) (
      told_by (once_reading h.by_auto attrs h.row) (about rule.MarkRepeated (mark_text h.row)) (read_as_row backend attrs it h.by_auto name h.row h.is_row ∙ form.0) (
      Contains-append_left (option_to_list (when (is_set h.row attrs) (about rule.MarkRepeated (mark_text h.row)))) (option_to_list (when (h.by_auto && refuses_auto h.row) (about rule.AutoIneligible (mark_text h.row)))) (about rule.MarkRepeated (mark_text h.row)) (in_when (is_set h.row attrs) (about rule.MarkRepeated (mark_text h.row)) form.1)
      )
      )

  ineligible_breaks : (name : List ℕ) → AutoIneligible backend it name → Contains (reading_errors (read_mark backend attrs it)) (about rule.AutoIneligible name)
  ineligible_breaks name h = subst (λ n. Contains (reading_errors (read_mark backend attrs it)) (about rule.AutoIneligible n)) (sym h.is_row.called) (
      told_by (read_form (mark_form h.row) true attrs h.row it.meta.value) (about rule.AutoIneligible (mark_text h.row)) (read_as_row backend attrs it true name h.row h.is_row) (ineligible_form h.row it.meta.value h.ineligible h.suits)
      )

  include_breaks : BadInclude backend it → Contains (reading_errors (read_mark backend attrs it)) (plain_error rule.BadInclude)
  include_breaks h = told_alone (plain_error rule.BadInclude) (
      read_as_row backend attrs it h.by_auto h.name mark.CustomExtraCode h.is_row
      ∙ include_form h.by_auto it.meta.value
      ∙ ap (λ found. included attrs found) (no_include it.meta.value h.bad)
      )

  taken_breaks : IncludeRepeated backend attrs it → Contains (reading_errors (read_mark backend attrs it)) (plain_error rule.IncludeRepeated)
  taken_breaks h = let found = some_pair it.meta.value (include_of it.meta.value) refl h.good in
      let there : has_location found.0.0 attrs.custom_extra_code ≡ true = ap (λ place. has_location place attrs.custom_extra_code) (only_location it.meta.value found.0 h.location found.1 h.asked) ∙ taken_place h.location attrs.custom_extra_code h.code h.stands in
      told_alone (plain_error rule.IncludeRepeated) (
      read_as_row backend attrs it h.by_auto h.name mark.CustomExtraCode h.is_row
      ∙ include_form h.by_auto it.meta.value
      ∙ ap (λ pair. included attrs pair) found.1
      ∙ ap (λ b. cond b (error_alone (plain_error rule.IncludeRepeated)) (change_alone (change.Includes found.0.0 found.0.1))) there
      )

  default_breaks : BadDefaultValue backend it → Contains (reading_errors (read_mark backend attrs it)) (plain_error rule.BadDefaultValue)
  default_breaks h = told_alone (plain_error rule.BadDefaultValue) (
      read_as_row backend attrs it h.by_auto h.name mark.DefaultValue h.is_row
      ∙ value_form h.by_auto it.meta.value
      ∙ ap (λ value. defaulted mark.DefaultValue (literal_in value)) h.given
      ∙ ap (λ value. valued value) (no_default h.literal h.bad)
      )

  -- what breaks a rule is told of its mark
  pub mark_breaks_told : (e : LoweringError) → MarkBreaks backend attrs it e → Contains (reading_errors (read_mark backend attrs it)) e
  mark_breaks_told e (MarkBreaks.auto_misplaced h) = told_alone (plain_error rule.AutoMisplaced) (ap (λ met. read_met backend attrs it met) h)
  mark_breaks_told e (MarkBreaks.unknown_pair h) = told_alone (plain_error rule.UnknownPair) (ap (λ met. read_met backend attrs it met) h)
  mark_breaks_told e (MarkBreaks.mark_unsupported name h) = unsupported_breaks name h
  mark_breaks_told e (MarkBreaks.second_special name h) = second_breaks name h
  mark_breaks_told e (MarkBreaks.mark_argument name h) = argument_breaks name h
  mark_breaks_told e (MarkBreaks.mark_repeated name h) = repeated_breaks name h
  mark_breaks_told e (MarkBreaks.auto_ineligible name h) = ineligible_breaks name h
  mark_breaks_told e (MarkBreaks.bad_include h) = include_breaks h
  mark_breaks_told e (MarkBreaks.include_repeated h) = taken_breaks h
  mark_breaks_told e (MarkBreaks.bad_default_value h) = default_breaks h
  mark_breaks_told e (MarkBreaks.unknown_mark name h) = told_alone (about rule.UnknownMark name) (read_unknown backend attrs it h.by_auto name h.taken h.no_special h.no_row)
