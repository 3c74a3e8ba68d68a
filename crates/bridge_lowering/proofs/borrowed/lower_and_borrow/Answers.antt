use Rattle.bridge_lowering.proofs.AnswerLemmas.{answered_with, refused_with}
use Rattle.bridge_lowering.proofs.borrowed.lower_and_borrow.Goals as goal

pub returns-in-Ok : goal.returns-in-Ok
returns-in-Ok g c =
    answered_with c.modules_have_one_catalog.ensures c.lowered_contexts_are_told_by_their_rules.ensures c.callables_are_read_as_declared.ensures c.args.env.now (g.V.AttributeValidator.meaning c.args.validator.now) c.args.config
    c.in-Ok.tcx c.in-Ok.ensures c.borrow_for.result c.borrow_for.ensures

pub returns-in-Err : goal.returns-in-Err
returns-in-Err g c =
    refused_with c.modules_have_one_catalog.ensures c.lowered_contexts_are_told_by_their_rules.ensures c.args.env.now (g.V.AttributeValidator.meaning c.args.validator.now) c.args.config c.in-Err.fault c.in-Err.ensures
