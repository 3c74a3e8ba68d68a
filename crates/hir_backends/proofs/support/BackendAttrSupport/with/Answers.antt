use Rattle.hir_backends.proofs.Flags.{flag_on-with, flag_on-with_other}
use Rattle.hir_backends.proofs.support.BackendAttrSupport.with.Goals as goal

pub returns-clause-on : goal.returns-clause-on
returns-clause-on c = rw c.turned_on.ensures (flag_on-with _ _)

pub returns-clause-others : goal.returns-clause-others
returns-clause-others c = rw c.turned_on.ensures (flag_on-with_other _ _)
