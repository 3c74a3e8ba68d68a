-- What is told of a mark breaks a rule.
use Rattle.std.proofs.Common.{◌≡◌, inl, inr, ℕ, List, [], ◌∷◌, Bool, true, false, ◌&&◌, cond, Option, Some, None, option_to_list, refl, sym, subst}
use Rattle.std.specs.List.{Contains}
use Rattle.std.proofs.lemmas.List.Elements.{Contains-append_cases}
use Rattle.bridge_telling.proofs.ExactLemmas.{in_none, in_one}
use Rattle.bridge_decl.specs.declared.attrs.DiplomatBackendAttr.{DiplomatBackendAttr}
use Rattle.bridge_decl.specs.declared.attrs.Lit.{Lit}
use Rattle.bridge_decl.specs.declared.attrs.MetaValue.TheVariants.{Empty, Literal}
use Rattle.hir_reports.specs.Texts.{plain_error}
use Rattle.hir_reports.specs.declared.report.LoweringError.{LoweringError}
use Rattle.hir_reports.specs.declared.rule.Rule.TheVariants as rule
use Rattle.hir_backends.specs.Backend.{Backend}
use Rattle.hir_backends.specs.Conditions.{condition_met}
use Rattle.hir_backends.specs.Support.{checked}
use Rattle.hir_backends.specs.declared.conditions.CfgFault.TheVariants as fault
use Rattle.hir_backends.specs.declared.conditions.Met.{Met}
use Rattle.hir_backends.specs.declared.conditions.Met.TheVariants.{Holds, Fails, Faulty}
use Rattle.hir_attrs.specs.Includes.{include_of}
use Rattle.hir_attrs.specs.Marks.{is_set, mark_flag, mark_form, mark_named, mark_text, refuses_auto}
use Rattle.hir_attrs.specs.Reading.{about, change_alone, defaulted, error_alone, has_location, included, is_denied, is_refused, literal_in, no_argument, read_form, read_mark, read_met, read_name, read_once, read_path, read_special, reading_errors, renamed, renaming_pattern, spaced, specialized, text_in, unsupported, valued, when, wrong_argument}
use Rattle.hir_attrs.specs.Special.{given_to, special_found, special_named, special_of, special_text, special_with}
use Rattle.hir_attrs.specs.Values.{default_of}
use Rattle.hir_attrs.specs.declared.attrs.Attrs.{Attrs}
use Rattle.hir_attrs.specs.declared.change.Change.TheVariants as change
use Rattle.hir_attrs.specs.declared.change.Reading.{Reading}
use Rattle.hir_attrs.specs.declared.includes.IncludeLocation.{IncludeLocation}
use Rattle.hir_attrs.specs.declared.includes.IncludeSource.{IncludeSource}
use Rattle.hir_attrs.specs.declared.names.MarkName.{MarkName}
use Rattle.hir_attrs.specs.declared.names.MarkName.TheVariants as mark
use Rattle.hir_attrs.specs.declared.special.SpecialMethod.{SpecialMethod}
use Rattle.hir_attrs.specs.declared.special.kind.SpecialKind.{SpecialKind}
use Rattle.hir_attrs.specs.declared.values.DefaultArgValue.{DefaultArgValue}
use Rattle.hir_mark_rules.specs.Arguments.{Suits}
use Rattle.hir_mark_rules.specs.Counting.{Counts, IsTaken, IsRow}
use Rattle.hir_mark_rules.specs.MarkBreaks.{MarkBreaks}
use Rattle.hir_mark_rules.specs.rules.AutoIneligible.{IsNeverAuto}
use Rattle.hir_mark_rules.specs.rules.MarkArgument.{MarkArgument}
use Rattle.hir_mark_rules.specs.rules.MarkRepeated.{IsSetOnce}
use Rattle.hir_mark_rules.specs.rules.MarkUnsupported.{MarkUnsupported}
use Rattle.hir_mark_rules.proofs.ArgumentLemmas.{literal_is, no_literal, no_pattern, no_text_in, none_given, pattern_is, some_given, given_suits, unsuited}
use Rattle.hir_mark_rules.proofs.DefaultLemmas.{bad_default}
use Rattle.hir_mark_rules.proofs.IncludeLemmas.{bad_include, last_location, no_include}
use Rattle.hir_mark_rules.proofs.NameLemmas.{mark_called, no_mark_called, no_special_called, special_called}
use Rattle.hir_mark_rules.proofs.PlaceLemmas.{place_taken}
use Rattle.hir_mark_rules.proofs.ReadingLemmas.{denied_by_flag, flag_denies}

-- a mark that stands once, where its argument suits it
abbrev pub once_reading : Bool → Attrs → MarkName → Reading
once_reading by_auto attrs row = record { change = change.Marks row; first = when (is_set row attrs) (about rule.MarkRepeated (mark_text row)); second = when (by_auto && refuses_auto row) (about rule.AutoIneligible (mark_text row)) }

both_true : (a b : Bool) → (a && b) ≡ true → (a ≡ true) × (b ≡ true)
both_true true b h = (refl, h)
both_true false b h = cc

module _ (backend : Backend) (attrs : Attrs) (it : DiplomatBackendAttr) (e : LoweringError) where
  tell : (error : LoweringError) → MarkBreaks backend attrs it error → Contains (error ∷ []) e → MarkBreaks backend attrs it e
  tell error breaks h = subst (λ x. MarkBreaks backend attrs it x) (sym (in_one error e h)) breaks

  tell_when : (b : Bool) (error : LoweringError) → (b ≡ true → MarkBreaks backend attrs it error) → Contains (option_to_list (when b error)) e → MarkBreaks backend attrs it e
  tell_when true error breaks h = tell error (breaks refl) h
  tell_when false error breaks h = absurd (in_none e h)

  -- ---- a row of the table

  wrong : (by_auto : Bool) (row : MarkName) → IsRow backend it by_auto row (mark_text row) → ¬ Suits row it.meta.value → Contains (reading_errors (wrong_argument (mark_text row))) e → MarkBreaks backend attrs it e
  wrong by_auto row is unsuits h = tell (about rule.MarkArgument (mark_text row)) (MarkBreaks.mark_argument (mark_text row) (MarkArgument.of_row row by_auto is unsuits)) h

  ineligible : (by_auto : Bool) (row : MarkName) → IsRow backend it by_auto row (mark_text row) → Suits row it.meta.value → (refuses_auto row ≡ true → IsNeverAuto row) → Contains (option_to_list (when (by_auto && refuses_auto row) (about rule.AutoIneligible (mark_text row)))) e → MarkBreaks backend attrs it e
  ineligible by_auto row is suits never h = tell_when (by_auto && refuses_auto row) (about rule.AutoIneligible (mark_text row)) (λ both. let p = both_true by_auto (refuses_auto row) both in MarkBreaks.auto_ineligible (mark_text row) (record { row = row; is_row = subst (λ b. IsRow backend it b row (mark_text row)) p.0 is; suits = suits; ineligible = never p.1 })) h

  once_by : (by_auto : Bool) (row : MarkName) → IsRow backend it by_auto row (mark_text row) → (it.meta.value ≡ Empty → Suits row it.meta.value) → (Suits row it.meta.value → it.meta.value ≡ Empty) → (is_set row attrs ≡ true → IsSetOnce attrs row) → (refuses_auto row ≡ true → IsNeverAuto row) → (b : Bool) → no_argument it.meta.value ≡ b → Contains (reading_errors (cond b (once_reading by_auto attrs row) (wrong_argument (mark_text row)))) e → MarkBreaks backend attrs it e
  once_by by_auto row is suits empty stands never true alone h = elim (Contains-append_cases (option_to_list (when (is_set row attrs) (about rule.MarkRepeated (mark_text row)))) (option_to_list (when (by_auto && refuses_auto row) (about rule.AutoIneligible (mark_text row)))) e h) [
    | inl c ↦ tell_when (is_set row attrs) (about rule.MarkRepeated (mark_text row)) (λ is_there. MarkBreaks.mark_repeated (mark_text row) (record { row = row; by_auto = by_auto; is_row = is; suits = suits (none_given it.meta.value alone); stands = stands is_there })) c
    | inr c ↦ ineligible by_auto row is (suits (none_given it.meta.value alone)) never c
  ]
  once_by by_auto row is suits empty stands never false alone h = wrong by_auto row is (λ suited. some_given it.meta.value alone (empty suited)) h

  once_told : (by_auto : Bool) (row : MarkName) → IsRow backend it by_auto row (mark_text row) → (it.meta.value ≡ Empty → Suits row it.meta.value) → (Suits row it.meta.value → it.meta.value ≡ Empty) → (is_set row attrs ≡ true → IsSetOnce attrs row) → (refuses_auto row ≡ true → IsNeverAuto row) → Contains (reading_errors (read_once by_auto attrs row it.meta.value)) e → MarkBreaks backend attrs it e
  once_told by_auto row is suits empty stands never h = once_by by_auto row is suits empty stands never (no_argument it.meta.value) refl h

  renamed_by : (by_auto : Bool) → IsRow backend it by_auto mark.Rename (mark_text mark.Rename) → (found : Option (List ℕ)) → renaming_pattern (text_in it.meta.value) ≡ found → Contains (reading_errors (renamed by_auto mark.Rename found)) e → MarkBreaks backend attrs it e
  renamed_by by_auto is None found h = wrong by_auto mark.Rename is (no_pattern it.meta.value found) h
  renamed_by by_auto is (Some pattern) found h = elim (Contains-append_cases (option_to_list (when (by_auto && refuses_auto mark.Rename) (about rule.AutoIneligible (mark_text mark.Rename)))) [] e h) [
    | inl c ↦ ineligible by_auto mark.Rename is (pattern_is it.meta.value pattern found) (λ refuses. IsNeverAuto.rename) c
    | inr c ↦ absurd (in_none e c)
  ]

  spaced_by : (by_auto : Bool) → IsRow backend it by_auto mark.Namespace (mark_text mark.Namespace) → (found : Option (List ℕ)) → text_in it.meta.value ≡ found → Contains (reading_errors (spaced mark.Namespace found)) e → MarkBreaks backend attrs it e
  spaced_by by_auto is None found h = wrong by_auto mark.Namespace is (no_text_in it.meta.value found) h
  spaced_by by_auto is (Some text) found h = absurd (in_none e h)

  repeated_by : (by_auto : Bool) → IsRow backend it by_auto mark.CustomExtraCode (mark_text mark.CustomExtraCode) → (pair : IncludeLocation × IncludeSource) → include_of it.meta.value ≡ Some pair → (b : Bool) → has_location pair.0 attrs.custom_extra_code ≡ b → Contains (reading_errors (cond b (error_alone (plain_error rule.IncludeRepeated)) (change_alone (change.Includes pair.0 pair.1)))) e → MarkBreaks backend attrs it e
  repeated_by by_auto is pair found true taken h = let code = place_taken pair.0 attrs.custom_extra_code taken in tell (plain_error rule.IncludeRepeated) (MarkBreaks.include_repeated (record { name = mark_text mark.CustomExtraCode; by_auto = by_auto; is_row = is; good = λ bad. cc (no_include it.meta.value bad, found); location = pair.0; asked = last_location it.meta.value pair found; code = code.0; stands = code.1 })) h
  repeated_by by_auto is pair found false taken h = absurd (in_none e h)

  included_by : (by_auto : Bool) → IsRow backend it by_auto mark.CustomExtraCode (mark_text mark.CustomExtraCode) → (found : Option (IncludeLocation × IncludeSource)) → include_of it.meta.value ≡ found → Contains (reading_errors (included attrs found)) e → MarkBreaks backend attrs it e
  included_by by_auto is None found h = tell (plain_error rule.BadInclude) (MarkBreaks.bad_include (record { name = mark_text mark.CustomExtraCode; by_auto = by_auto; is_row = is; bad = bad_include it.meta.value found })) h
  included_by by_auto is (Some pair) found h = repeated_by by_auto is pair found (has_location pair.0 attrs.custom_extra_code) refl h

  valued_by : (by_auto : Bool) → IsRow backend it by_auto mark.DefaultValue (mark_text mark.DefaultValue) → (literal : Lit) → it.meta.value ≡ Literal literal → (found : Option DefaultArgValue) → default_of literal ≡ found → Contains (reading_errors (valued found)) e → MarkBreaks backend attrs it e
  valued_by by_auto is literal given None found h = tell (plain_error rule.BadDefaultValue) (MarkBreaks.bad_default_value (record { name = mark_text mark.DefaultValue; by_auto = by_auto; is_row = is; literal = literal; given = given; bad = bad_default literal found })) h
  valued_by by_auto is literal given (Some value) found h = absurd (in_none e h)

  defaulted_by : (by_auto : Bool) → IsRow backend it by_auto mark.DefaultValue (mark_text mark.DefaultValue) → (found : Option Lit) → literal_in it.meta.value ≡ found → Contains (reading_errors (defaulted mark.DefaultValue found)) e → MarkBreaks backend attrs it e
  defaulted_by by_auto is None found h = wrong by_auto mark.DefaultValue is (no_literal it.meta.value found) h
  defaulted_by by_auto is (Some literal) found h = valued_by by_auto is literal (literal_is it.meta.value literal found) (default_of literal) refl h

  row_told : (by_auto : Bool) (row : MarkName) → IsRow backend it by_auto row (mark_text row) → Contains (reading_errors (read_form (mark_form row) by_auto attrs row it.meta.value)) e → MarkBreaks backend attrs it e
  unfolding mark_form is_set refuses_auto
  row_told by_auto mark.Disable is h = once_told by_auto mark.Disable is (λ x. x) (λ x. x) IsSetOnce.disable (λ refuses. IsNeverAuto.disable) h
  row_told by_auto mark.Default is h = once_told by_auto mark.Default is (λ x. x) (λ x. x) IsSetOnce.default (λ refuses. cc) h
  row_told by_auto mark.ManuallyDisposable is h = once_told by_auto mark.ManuallyDisposable is (λ x. x) (λ x. x) IsSetOnce.manually_disposable (λ refuses. IsNeverAuto.manually_disposable) h
  row_told by_auto mark.Rename is h = renamed_by by_auto is (renaming_pattern (text_in it.meta.value)) refl h
  row_told by_auto mark.Namespace is h = spaced_by by_auto is (text_in it.meta.value) refl h
  row_told by_auto mark.Error is h = absurd (in_none e h)
  row_told by_auto mark.PreconditionViolation is h = absurd (in_none e h)
  row_told by_auto mark.GenerateMockingInterface is h = absurd (in_none e h)
  row_told by_auto mark.AbiCompatible is h = absurd (in_none e h)
  row_told by_auto mark.FfiError is h = absurd (in_none e h)
  row_told by_auto mark.MutStructRef is h = absurd (in_none e h)
  row_told by_auto mark.Tuple is h = absurd (in_none e h)
  row_told by_auto mark.CustomExtraCode is h = included_by by_auto is (include_of it.meta.value) refl h
  row_told by_auto mark.DefaultValue is h = defaulted_by by_auto is (literal_in it.meta.value) refl h

  -- ---- how far the mark is read

  unsupported_told : (by_auto : Bool) (name : List ℕ) → (by_auto ≡ false → MarkUnsupported backend it name) → Contains (reading_errors (unsupported backend by_auto name)) e → MarkBreaks backend attrs it e
  unsupported_told true name denies h = absurd (in_none e h)
  unsupported_told false name denies h = tell (record { rule = rule.MarkUnsupported; args = name ∷ backend.primary_name ∷ [] }) (MarkBreaks.mark_unsupported name (denies refl)) h

  flag_told : (by_auto : Bool) (row : MarkName) → IsTaken backend it by_auto (mark_text row) → (b : Bool) → is_denied backend (mark_flag row) ≡ b → Contains (reading_errors (cond b (unsupported backend by_auto (mark_text row)) (read_form (mark_form row) by_auto attrs row it.meta.value))) e → MarkBreaks backend attrs it e
  flag_told by_auto row read true denied h = unsupported_told by_auto (mark_text row) (λ off. MarkUnsupported.denied_flag row (subst (λ b. IsTaken backend it b (mark_text row)) off read) refl (denied_by_flag backend row denied)) h
  flag_told by_auto row read false denied h = row_told by_auto row (record { taken = read; called = refl; supported = λ lacks. cc (flag_denies backend row lacks, denied) }) h

  table_told : (by_auto : Bool) (name : List ℕ) → IsTaken backend it by_auto name → ((kind : SpecialKind) → ¬ (name ≡ special_text kind)) → (found : Option MarkName) → mark_named name ≡ found → Contains (reading_errors (read_name backend by_auto attrs name it.meta.value found)) e → MarkBreaks backend attrs it e
  table_told by_auto name read no_special None found h = tell (about rule.UnknownMark name) (MarkBreaks.unknown_mark name (record { by_auto = by_auto; taken = read; no_special = no_special; no_row = no_mark_called name found })) h
  table_told by_auto name read no_special (Some row) found h = let called = mark_called name row found in flag_told by_auto row (subst (λ n. IsTaken backend it by_auto n) called read) (is_denied backend (mark_flag row)) refl (subst (λ n. Contains (reading_errors (read_name backend by_auto attrs n it.meta.value (Some row))) e) called h)

  second_told : (name : List ℕ) (kind : SpecialKind) (by_auto : Bool) (given : Option (List ℕ)) → IsTaken backend it by_auto name → name ≡ special_text kind → given_to kind it.meta.value ≡ Some given → (earlier : Option SpecialMethod) → attrs.special_method ≡ earlier → Contains (reading_errors (specialized earlier name (special_of kind given))) e → MarkBreaks backend attrs it e
  second_told name kind by_auto given read called gives None stands h = absurd (in_none e h)
  second_told name kind by_auto given read called gives (Some earlier) stands h = tell (about rule.SecondSpecial name) (MarkBreaks.second_special name (record { kind = kind; special = record { by_auto = by_auto; taken = read; called = called }; suits = given_suits kind it.meta.value given gives; earlier = earlier; stands = stands })) h

  given_told : (name : List ℕ) (kind : SpecialKind) (by_auto : Bool) → IsTaken backend it by_auto name → name ≡ special_text kind → (given : Option (Option (List ℕ))) → given_to kind it.meta.value ≡ given → Contains (reading_errors (read_special backend by_auto attrs name it.meta.value (special_with kind given))) e → MarkBreaks backend attrs it e
  given_told name kind by_auto read called None gives h = tell (about rule.MarkArgument name) (MarkBreaks.mark_argument name (MarkArgument.of_special kind (record { by_auto = by_auto; taken = read; called = called }) (unsuited kind it.meta.value gives))) h
  given_told name kind by_auto read called (Some given) gives h = second_told name kind by_auto given read called gives attrs.special_method refl h

  special_told : (by_auto : Bool) (name : List ℕ) → IsTaken backend it by_auto name → (found : Option SpecialKind) → special_named name ≡ found → Contains (reading_errors (read_special backend by_auto attrs name it.meta.value (special_found found it.meta.value))) e → MarkBreaks backend attrs it e
  special_told by_auto name read None found h = table_told by_auto name read (no_special_called name found) (mark_named name) refl h
  special_told by_auto name read (Some kind) found h = given_told name kind by_auto read (special_called name kind found) (given_to kind it.meta.value) refl h

  named_told : (by_auto : Bool) (name : List ℕ) → Counts backend it by_auto name → (said : Option Bool) → checked backend.supports name ≡ said → Contains (reading_errors (cond (is_refused said) (unsupported backend by_auto name) (read_special backend by_auto attrs name it.meta.value (special_found (special_named name) it.meta.value)))) e → MarkBreaks backend attrs it e
  named_told by_auto name counts None said h = special_told by_auto name (record { counts = counts; undenied = λ denies. cc (denies, said) }) (special_named name) refl h
  named_told by_auto name counts (Some true) said h = special_told by_auto name (record { counts = counts; undenied = λ denies. cc (denies, said) }) (special_named name) refl h
  named_told by_auto name counts (Some false) said h = unsupported_told by_auto name (λ off. MarkUnsupported.denied_name (subst (λ b. Counts backend it b name) off counts) said) h

  path_told : (by_auto : Bool) → condition_met backend it.cfg true ≡ Holds by_auto → (path : List (List ℕ)) → it.meta.path ≡ path → Contains (reading_errors (read_path backend by_auto attrs path it.meta.value)) e → MarkBreaks backend attrs it e
  path_told by_auto met [] named h = absurd (in_none e h)
  path_told by_auto met (name ∷ []) named h = named_told by_auto name (record { met = met; named = named }) (checked backend.supports name) refl h
  path_told by_auto met (name ∷ next ∷ names) named h = absurd (in_none e h)

  met_told : (met : Met) → condition_met backend it.cfg true ≡ met → Contains (reading_errors (read_met backend attrs it met)) e → MarkBreaks backend attrs it e
  met_told (Holds by_auto) met h = path_told by_auto met it.meta.path refl h
  met_told Fails met h = absurd (in_none e h)
  met_told (Faulty fault.AutoMisplaced) met h = tell (plain_error rule.AutoMisplaced) (MarkBreaks.auto_misplaced met) h
  met_told (Faulty fault.UnknownPair) met h = tell (plain_error rule.UnknownPair) (MarkBreaks.unknown_pair met) h

  -- what is told of a mark breaks a rule
  pub mark_told : Contains (reading_errors (read_mark backend attrs it)) e → MarkBreaks backend attrs it e
  mark_told h = met_told (condition_met backend it.cfg true) refl h
