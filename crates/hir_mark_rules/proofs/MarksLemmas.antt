-- What is told of marks is what breaks a rule.
use Rattle.std.proofs.Common.{◌≡◌, inl, inr, List, [], ◌∷◌, ◌++◌, refl, sym, ap, subst}
use Rattle.std.specs.List.{Contains}
use Rattle.std.proofs.lemmas.List.Elements.{Contains-append_cases, Contains-append_left, Contains-append_right}
use Rattle.bridge_telling.specs.Telling.{TellsExactly}
use Rattle.bridge_telling.proofs.ExactLemmas.{in_none}
use Rattle.bridge_decl.specs.declared.attrs.Attrs.{Attrs as DeclaredAttrs}
use Rattle.bridge_decl.specs.declared.attrs.DiplomatBackendAttr.{DiplomatBackendAttr}
use Rattle.hir_reports.specs.declared.report.LoweringError.{LoweringError}
use Rattle.hir_backends.specs.Backend.{Backend}
use Rattle.hir_attrs.specs.Reading.{changed, errors_from, first_set, marks_errors, marks_from, read_mark, reading_errors}
use Rattle.hir_attrs.specs.declared.attrs.Attrs.{Attrs}
use Rattle.hir_mark_rules.specs.MarkBreaks.{MarkBreaks, MarksBreak}
use Rattle.hir_mark_rules.proofs.BreakLemmas.{mark_breaks_told}
use Rattle.hir_mark_rules.proofs.ToldLemmas.{mark_told}

-- of one mark, after those that made the set
pub mark_exactly : (backend : Backend) (attrs : Attrs) (it : DiplomatBackendAttr) → TellsExactly (reading_errors (read_mark backend attrs it)) (MarkBreaks backend attrs it)
mark_exactly backend attrs it e = (λ h. mark_told backend attrs it e h, λ h. mark_breaks_told backend attrs it e h)

-- a mark of a list breaks a rule, after those before it
record OneBreaks (backend : Backend) (attrs : Attrs) (marks : List DiplomatBackendAttr) (e : LoweringError) : Type 0 where
  before : List DiplomatBackendAttr
  it : DiplomatBackendAttr
  after : List DiplomatBackendAttr
  listed : marks ≡ before ++ it ∷ after
  breaks : MarkBreaks backend (marks_from backend attrs before) it e

next_breaks : (backend : Backend) (attrs : Attrs) (first : DiplomatBackendAttr) (marks : List DiplomatBackendAttr) (e : LoweringError) → OneBreaks backend (changed (read_mark backend attrs first).change attrs) marks e → OneBreaks backend attrs (first ∷ marks) e
next_breaks backend attrs first marks e h = record { before = first ∷ h.before; it = h.it; after = h.after; listed = ap (λ rest. first ∷ rest) h.listed; breaks = h.breaks }

one_breaks : (backend : Backend) (attrs : Attrs) (marks : List DiplomatBackendAttr) (e : LoweringError) → Contains (errors_from backend attrs marks) e → OneBreaks backend attrs marks e
one_breaks backend attrs [] e h = absurd (in_none e h)
one_breaks backend attrs (first ∷ marks) e h = elim (Contains-append_cases (reading_errors (read_mark backend attrs first)) (errors_from backend (changed (read_mark backend attrs first).change attrs) marks) e h) [
  | inl c ↦ record { before = []; it = first; after = marks; listed = refl; breaks = mark_told backend attrs first e c }
  | inr c ↦ next_breaks backend attrs first marks e (one_breaks backend (changed (read_mark backend attrs first).change attrs) marks e c)
]

told_after : (backend : Backend) (attrs : Attrs) (before : List DiplomatBackendAttr) (it : DiplomatBackendAttr) (after : List DiplomatBackendAttr) (e : LoweringError) → MarkBreaks backend (marks_from backend attrs before) it e → Contains (errors_from backend attrs (before ++ it ∷ after)) e
told_after backend attrs [] it after e h = Contains-append_left (reading_errors (read_mark backend attrs it)) (errors_from backend (changed (read_mark backend attrs it).change attrs) after) e (mark_breaks_told backend attrs it e h)
told_after backend attrs (first ∷ before) it after e h = Contains-append_right (reading_errors (read_mark backend attrs first)) (errors_from backend (changed (read_mark backend attrs first).change attrs) (before ++ it ∷ after)) e (told_after backend (changed (read_mark backend attrs first).change attrs) before it after e h)

-- of all marks of a declaration
pub marks_exactly : (backend : Backend) (declared : DeclaredAttrs) (parent : Attrs) → TellsExactly (marks_errors backend declared parent) (MarksBreak backend declared parent)
marks_exactly backend declared parent e = (
  λ h. let one = one_breaks backend (first_set backend declared parent) declared.marks e h in record { before = one.before; it = one.it; after = one.after; listed = one.listed; breaks = one.breaks },
  λ h. subst (λ marks. Contains (errors_from backend (first_set backend declared parent) marks) e) (sym h.listed) (told_after backend (first_set backend declared parent) h.before h.it h.after e h.breaks),
)
