-- What marks are read as, where they count.
use Rattle.std.proofs.Common.{◌≡◌, ℕ, List, Bool, true, false, not, cond, Option, Some, None, refl, sym, ap, ◌∙◌}
use Rattle.bridge_decl.specs.declared.attrs.DiplomatBackendAttr.{DiplomatBackendAttr}
use Rattle.hir_backends.specs.Backend.{Backend}
use Rattle.hir_backends.specs.Support.{checked, flag_on}
use Rattle.hir_backends.specs.declared.support.flag.SupportFlag.{SupportFlag}
use Rattle.hir_attrs.specs.Marks.{mark_flag, mark_form, mark_named, mark_text}
use Rattle.hir_attrs.specs.Reading.{is_denied, is_refused, read_form, read_mark, read_met, read_name, read_named, read_path, read_special, unsupported}
use Rattle.hir_attrs.specs.Special.{given_to, special_found, special_named, special_reading, special_text, special_with}
use Rattle.hir_attrs.specs.declared.attrs.Attrs.{Attrs}
use Rattle.hir_attrs.specs.declared.names.MarkName.{MarkName}
use Rattle.hir_attrs.specs.declared.special.kind.SpecialKind.{SpecialKind}
use Rattle.hir_mark_rules.specs.Counting.{Counts, DeniesFlag, DeniesName, IsTaken, IsRow}
use Rattle.hir_mark_rules.proofs.NameLemmas.{named_mark, named_special, row_is_no_special, mark_absent, special_absent}

-- ---- names and flags that are denied

undenied_name : (said : Option Bool) → ¬ (said ≡ Some false) → is_refused said ≡ false
undenied_name None h = refl
undenied_name (Some true) h = refl
undenied_name (Some false) h = absurd (h refl)

not_true : (b : Bool) → b ≡ false → not b ≡ true
not_true b h = ap not h

off : (b : Bool) → not b ≡ true → b ≡ false
off true h = sym h
off false h = refl

flag_off : (backend : Backend) (row : MarkName) (needed : Option SupportFlag) → mark_flag row ≡ needed → is_denied backend needed ≡ true → DeniesFlag backend row
flag_off backend row None is h = cc
flag_off backend row (Some flag) is h = (flag, (is, off (flag_on backend.supports flag) h))

-- whether a flag is off, as a test and as a fact
pub denied_by_flag : (backend : Backend) (row : MarkName) → is_denied backend (mark_flag row) ≡ true → DeniesFlag backend row
denied_by_flag backend row h = flag_off backend row (mark_flag row) refl h

pub flag_denies : (backend : Backend) (row : MarkName) → DeniesFlag backend row → is_denied backend (mark_flag row) ≡ true
flag_denies backend row h = ap (is_denied backend) h.1.0 ∙ not_true (flag_on backend.supports h.0) h.1.1

undenied : (b : Bool) → ¬ (b ≡ true) → b ≡ false
undenied true h = absurd (h refl)
undenied false h = refl

pub flag_allows : (backend : Backend) (row : MarkName) → ¬ DeniesFlag backend row → is_denied backend (mark_flag row) ≡ false
flag_allows backend row h = undenied (is_denied backend (mark_flag row)) (λ is. h (denied_by_flag backend row is))

-- ---- how far a mark is read

module _ (backend : Backend) (attrs : Attrs) (it : DiplomatBackendAttr) where
  -- one that counts, by its name
  pub read_by_name : (by_auto : Bool) (name : List ℕ) → Counts backend it by_auto name → read_mark backend attrs it ≡ read_named backend by_auto attrs name it.meta.value
  read_by_name by_auto name h = ap (λ met. read_met backend attrs it met) h.met ∙ ap (λ path. read_path backend by_auto attrs path it.meta.value) h.named

  -- one whose name isn't denied, by whether that is a special method's
  pub read_by_kind : (by_auto : Bool) (name : List ℕ) → IsTaken backend it by_auto name → read_mark backend attrs it ≡ read_special backend by_auto attrs name it.meta.value (special_reading name it.meta.value)
  read_by_kind by_auto name h = read_by_name by_auto name h.counts ∙ ap (λ b. cond b (unsupported backend by_auto name) (read_special backend by_auto attrs name it.meta.value (special_reading name it.meta.value))) (undenied_name (checked backend.supports name) h.undenied)

  -- a denied one
  pub read_denied : (by_auto : Bool) (name : List ℕ) → Counts backend it by_auto name → DeniesName backend name → read_mark backend attrs it ≡ unsupported backend by_auto name
  read_denied by_auto name h denies = read_by_name by_auto name h ∙ ap (λ said. cond (is_refused said) (unsupported backend by_auto name) (read_special backend by_auto attrs name it.meta.value (special_reading name it.meta.value))) denies

  -- that of a special method
  pub read_as_special : (by_auto : Bool) (name : List ℕ) (kind : SpecialKind) → IsTaken backend it by_auto name → name ≡ special_text kind → read_mark backend attrs it ≡ read_special backend by_auto attrs name it.meta.value (special_with kind (given_to kind it.meta.value))
  read_as_special by_auto name kind h is = read_by_kind by_auto name h ∙ ap (λ found. read_special backend by_auto attrs name it.meta.value (special_found found it.meta.value)) (ap special_named is ∙ named_special kind)

  -- a row of the table, whose flag isn't asked for yet
  pub read_in_table : (by_auto : Bool) (name : List ℕ) (row : MarkName) → IsTaken backend it by_auto name → name ≡ mark_text row → read_mark backend attrs it ≡ read_name backend by_auto attrs name it.meta.value (Some row)
  read_in_table by_auto name row h is = read_by_kind by_auto name h ∙ ap (λ found. read_special backend by_auto attrs name it.meta.value (special_found found it.meta.value)) (ap special_named is ∙ row_is_no_special row) ∙ ap (λ found. read_name backend by_auto attrs name it.meta.value found) (ap mark_named is ∙ named_mark row)

  pub read_flag_off : (by_auto : Bool) (name : List ℕ) (row : MarkName) → IsTaken backend it by_auto name → name ≡ mark_text row → DeniesFlag backend row → read_mark backend attrs it ≡ unsupported backend by_auto name
  read_flag_off by_auto name row h is denies = read_in_table by_auto name row h is ∙ ap (λ b. cond b (unsupported backend by_auto name) (read_form (mark_form row) by_auto attrs row it.meta.value)) (flag_denies backend row denies)

  pub read_as_row : (by_auto : Bool) (name : List ℕ) (row : MarkName) → IsRow backend it by_auto row name → read_mark backend attrs it ≡ read_form (mark_form row) by_auto attrs row it.meta.value
  read_as_row by_auto name row h = read_in_table by_auto name row h.taken h.called ∙ ap (λ b. cond b (unsupported backend by_auto name) (read_form (mark_form row) by_auto attrs row it.meta.value)) (flag_allows backend row h.supported)

  -- one whose name nothing has
  pub read_unknown : (by_auto : Bool) (name : List ℕ) → IsTaken backend it by_auto name → ((kind : SpecialKind) → ¬ (name ≡ special_text kind)) → ((row : MarkName) → ¬ (name ≡ mark_text row)) → read_mark backend attrs it ≡ read_name backend by_auto attrs name it.meta.value None
  read_unknown by_auto name h no_special no_row = read_by_kind by_auto name h ∙ ap (λ found. read_special backend by_auto attrs name it.meta.value (special_found found it.meta.value)) (special_absent name no_special) ∙ ap (λ found. read_name backend by_auto attrs name it.meta.value found) (mark_absent name no_row)
