use Rattle.std.proofs.Common.{length, subst}
use Rattle.hir_nesting.specs.Faults.{TellsMisfit}
use Rattle.hir_context.specs.Fitness.{nesting_of}
use Rattle.hir_context.proofs.Naming.{all_fit, nests_unfit}
use Rattle.hir_context.proofs.context.misfit.Goals as goal

pub returns-in-Some : goal.returns-in-Some
returns-in-Some c =
    nests_unfit c.args.defs.now c.in-Some.id c.of_nesting.result c.of_nesting.ensures
    (subst (TellsMisfit (nesting_of c.args.defs.now) (length c.args.defs.now.out_structs.defs)) c.in-Some.is c.in_ok-id.ensures)

pub returns-in-None : goal.returns-in-None
returns-in-None c =
    all_fit c.args.defs.now c.in_ok-named.named c.in_ok-named.ensures c.if-is_some.ensures
    (subst (TellsMisfit (nesting_of c.args.defs.now) (length c.args.defs.now.out_structs.defs)) c.in-None.is c.in_ok-id.ensures)
