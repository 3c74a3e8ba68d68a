use Rattle.std.proofs.Common.{ap}
use Rattle.hir_reports.specs.Store.{Held}
use Rattle.hir_items.proofs.HoldLemmas.{held_on, held_same, held_then}
use Rattle.hir_items.proofs.repeated.test_at_itself.Goals as goal

pub returns-in_err-test_repeated-clause-kept : goal.returns-in_err-test_repeated-clause-kept
returns-in_err-test_repeated-clause-kept g c =
    held_on c.args.errors.now c.set_subitem.new.self c.test_repeated.new.errors (ap (λ (h : Held). h.reports) c.set_subitem.ensures) c.in_err-test_repeated.ensures.kept

pub returns-clause-kept : goal.returns-clause-kept
returns-clause-kept g c =
    held_then c.args.errors.now c.test_repeated.new.errors c.clear_subitem.new.self
    (held_on c.args.errors.now c.set_subitem.new.self c.test_repeated.new.errors (ap (λ (h : Held). h.reports) c.set_subitem.ensures) c.in_ok-test_repeated.ensures.kept)
    (held_same c.test_repeated.new.errors c.clear_subitem.new.self (ap (λ (h : Held). h.reports) c.clear_subitem.ensures))
