use Rattle.std.proofs.Common.{refl}
use Rattle.hir_backends.specs.Support.{no_flags}
use Rattle.hir_backends.proofs.Flags.{flag_on-none}
use Rattle.hir_backends.proofs.support.BackendAttrSupport.none.Goals as goal

pub returns-clause-value : goal.returns-clause-value
unfolding no_flags
returns-clause-value c = refl

pub returns-clause-off : goal.returns-clause-off
unfolding no_flags
returns-clause-off c = flag_on-none
