use Rattle.std.proofs.Common.{subst}
use Rattle.bridge_leaves.specs.inside.Totals.{CountsType}
use Rattle.bridge_leaves.proofs.counts.param_count.Goals as goal

pub returns : goal.returns
returns c = subst (λ s. CountsType c.args.tcx.now.definitions s c.part_count.result) c.input_part.ensures.skeleton c.part_count.ensures
