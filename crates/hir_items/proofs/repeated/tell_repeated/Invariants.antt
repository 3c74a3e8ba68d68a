use Rattle.std.proofs.Common.{◌≡◌, drop, None}
use Rattle.hir_items.specs.Repeated.{repeated_reports}
use Rattle.hir_items.specs.inside.Reported.{with_reports}
use Rattle.hir_modules.specs.Holding.{HoldsStill}
use Rattle.hir_reports.specs.Store.{at_subitem}
use Rattle.hir_special.specs.Repeated.{none_seen}
use Rattle.hir_items.proofs.repeated.tell_repeated.Given as goal

abbrev pub invariant-loop-method : goal.invariant-loop-method
invariant-loop-method g l =
    let backend = g.V.AttributeValidator.meaning l.lent.validator.now in
    let start = l.fn.errors in
    record {
      told : with_reports (at_subitem start None) (repeated_reports backend l.lent.support.now start.place.«module» start.place.item l.module_set none_seen l.methods)
          ≡ with_reports l.errors (repeated_reports backend l.lent.support.now start.place.«module» start.place.item l.module_set l.seen (drop l.method-index l.methods));
      kept : HoldsStill start l.errors;
    }
