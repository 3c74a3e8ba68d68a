use Rattle.std.proofs.Common.{subst}
use Rattle.definition_graph.specs.Surveying.{IsDepth}
use Rattle.hir_nesting.proofs.Judging.{depth_here, never_here, told_deep, told_none}
use Rattle.hir_nesting.proofs.nesting.fault_at.Goals as goal

pub returns-then-depth-gt-MOST_LEVELS : goal.returns-then-depth-gt-MOST_LEVELS
returns-then-depth-gt-MOST_LEVELS c =
    told_deep c.args.graph.now c.args.node c.in-Some.depth
    (subst (IsDepth c.args.graph.now c.args.node) c.in-Some.is (depth_here c.args.graph.now c.args.node c.args.survey.now.depth.items c.index-2.result.now c.requires.depths c.requires.within c.index-2.ensures))
    c.if-depth-gt-MOST_LEVELS.true

pub returns-in-None : goal.returns-in-None
returns-in-None c =
    told_none c.args.graph.now c.args.node
    (never_here c.args.graph.now c.args.node c.args.survey.now.reaches_itself.items c.index.result.now c.requires.flags c.requires.within c.index.ensures c.if-index.false)
    (subst (IsDepth c.args.graph.now c.args.node) c.in-None.is (depth_here c.args.graph.now c.args.node c.args.survey.now.depth.items c.index-2.result.now c.requires.depths c.requires.within c.index-2.ensures))
