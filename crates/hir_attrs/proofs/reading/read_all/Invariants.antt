use Rattle.std.proofs.Common.{◌≡◌, drop}
use Rattle.hir_reports.specs.Store.{Keeps, added}
use Rattle.hir_attrs.specs.Reading.{errors_from, marks_from}
use Rattle.hir_attrs.proofs.reading.read_all.Given as goal

abbrev pub invariant-loop-mark : goal.invariant-loop-mark
invariant-loop-mark g l =
    let backend = g.V.AttributeValidator.meaning l.v in
    let rest = drop l.mark-index l.marks in
    record {
      changed : marks_from backend l.initial.attrs l.marks ≡ marks_from backend l.attrs rest;
      told : added l.initial.errors (errors_from backend l.initial.attrs l.marks) ≡ added l.errors (errors_from backend l.attrs rest);
      kept : Keeps l.initial.errors l.errors;
    }
