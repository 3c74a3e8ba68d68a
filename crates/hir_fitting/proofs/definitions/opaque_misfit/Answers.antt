use Rattle.hir_fitting.specs.Parts.{parts_of_opaque}
use Rattle.hir_fitting.proofs.Telling.{answered}
use Rattle.hir_fitting.proofs.definitions.opaque_misfit.Goals as goal

pub returns : goal.returns
returns c =
    answered c.args.census.now c.args.id (parts_of_opaque c.args.def.now) c.in_ok-named.named c.answer.result c.answer.ensures c.in_ok-named.ensures
