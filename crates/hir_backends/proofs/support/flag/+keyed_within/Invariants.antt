use Rattle.std.proofs.Common.{length}
use Rattle.hir_backends.proofs.support.flag.+keyed_within.Given as goal

abbrev pub decreases-keyed_within : goal.decreases-keyed_within
decreases-keyed_within l = length l.flags.now
