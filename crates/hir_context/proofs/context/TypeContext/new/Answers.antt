use Rattle.std.proofs.Common.{subst}
use Rattle.hir_context.specs.inside.Telling.{TellsUnfit}
use Rattle.hir_context.proofs.context.TypeContext.new.Goals as goal

pub returns-in-Ok-Some-clause-fault : goal.returns-in-Ok-Some-clause-fault
returns-in-Ok-Some-clause-fault c =
    (c.in-Ok.definitions, c.in-Ok.ensures, subst (TellsUnfit c.in-Ok.definitions) c.in-Ok-Some.field-0-is c.in-Ok-Some.ensures)
