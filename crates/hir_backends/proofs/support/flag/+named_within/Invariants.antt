use Rattle.std.proofs.Common.{length}
use Rattle.hir_backends.proofs.support.flag.+named_within.Given as goal

abbrev pub decreases-named_within : goal.decreases-named_within
decreases-named_within l = length l.flags.now
