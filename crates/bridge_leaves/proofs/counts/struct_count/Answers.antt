use Rattle.bridge_leaves.proofs.ReportLemmas.{count_there, none_there}
use Rattle.bridge_leaves.proofs.counts.struct_count.Goals as goal

pub returns-in-Some : goal.returns-in-Some
returns-in-Some c =
    count_there c.args.tcx.now.definitions c.args.counts.now c.requires c.args.id c.index.result c.in-Some.count.now c.index.ensures
    c.in-Some.ensures.lookup.3.0 (c.in-Some.ensures.lookup.3.1 0)

pub returns-in-None : goal.returns-in-None
returns-in-None c =
    none_there c.args.tcx.now.definitions c.args.counts.now c.requires c.args.id c.index.result c.index.ensures c.in-None.ensures.lookup.3
