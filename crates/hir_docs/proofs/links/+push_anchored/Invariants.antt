use Rattle.std.proofs.Common.{length}
use Rattle.hir_docs.proofs.links.+push_anchored.Given as goal

abbrev pub decreases-push_anchored : goal.decreases-push_anchored
decreases-push_anchored l = length l.anchors.now
