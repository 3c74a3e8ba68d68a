use Rattle.hir_fitting.specs.Parts.{parts_of_function, method_part}
use Rattle.hir_fitting.proofs.Telling.{answered, told_alone}
use Rattle.hir_fitting.proofs.definitions.function_misfit.Goals as goal

pub returns : goal.returns
returns c =
    answered c.args.census.now c.args.id (parts_of_function c.args.def.now) c.in_ok-named.named c.answer.result c.answer.ensures
    (told_alone c.args.census.now c.args.id (method_part c.args.def.now) c.in_ok-named.named c.in_ok-named.ensures)
