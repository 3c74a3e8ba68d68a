use Rattle.hir_validation.proofs.WalkLemmas.{number_step}
use Rattle.hir_validation.specs.ImpliedBounds.{written_errors}
use Rattle.hir_validation.proofs.bounds.Given.tell_all.Goals as goal

pub loop-number-preserved : goal.loop-number-preserved
loop-number-preserved c =
    let it = c.args.self.now in
    number_step (written_errors it.direct.now it.source.now it.definition.now it.given.now) c.args.errors.now c.loop-number.errors _ it.definition.now.bounds c.loop-number.number
    c.loop-number.invariant c.in_ok-tell_number.ensures
