use Rattle.bridge_report.specs.InContext.{callables}
use Rattle.bridge_explain.proofs.Asking.{answers_all, no_such_callable}
use Rattle.bridge_explain.proofs.explaining.explain.Goals as goal

pub explain_inside-requires : goal.explain_inside-requires
explain_inside-requires c = (c.in-Some.ensures.callable, c.in-Some.ensures.of)

pub returns-in-Some : goal.returns-in-Some
returns-in-Some c =
    let defs = c.args.report.now.tcx.definitions in
    answers_all defs c.in-Some.found.now (callables defs) _ c.args.question.now c.in-Some.ensures.callable c.in-Some.ensures.of c.question.view_is c.in-Some.ensures.found
    c.explain_inside.result c.explain_inside.ensures

pub returns-in-None : goal.returns-in-None
returns-in-None c = no_such_callable (callables c.args.report.now.tcx.definitions) _ c.args.question.now c.question.view_is c.in-None.ensures
