use Rattle.std.proofs.Common.{subst, sym}
use Rattle.hir_reports.specs.Store.{Keeps}
use Rattle.hir_traits.proofs.ReportLemmas.{holds_at_method}
use Rattle.hir_traits.proofs.methods.lower_next.Goals as goal

pub returns-clause-kept : goal.returns-clause-kept
returns-clause-kept g c = λ earlier holds.
    holds_at_method earlier c.args.errors.now c.lower_method.new.errors c.as_str.result.now holds
    (λ before keeps. c.lower_method.ensures.kept before (subst (Keeps before) (sym c.set_subitem.ensures) keeps))
