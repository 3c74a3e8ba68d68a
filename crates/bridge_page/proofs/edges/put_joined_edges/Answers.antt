use Rattle.std.specs.Prelude.{codes}
use Rattle.bridge_outside.proofs.PrintingLaws.{prints_nothing}
use Rattle.bridge_outside.proofs.JoinedLists.{prints_more, prints_all}
use Rattle.bridge_page.specs.inside.Printed.{report_edge_text}
use Rattle.bridge_page.proofs.edges.put_joined_edges.Goals as goal

pub loop-place-init : goal.loop-place-init
loop-place-init g c = prints_nothing

pub loop-place-preserved : goal.loop-place-preserved
loop-place-preserved g c =
    prints_more (report_edge_text c.args.method.now) (codes ", ") c.args.edges.now c.loop-place.place c.index-edges-place.result c.loop-place.invariant c.put_edge_at.ensures c.loop-place-test.true
    c.index-edges-place.is

pub returns : goal.returns
returns g c = prints_all (report_edge_text c.args.method.now) (codes ", ") c.args.edges.now c.loop-place.place c.loop-place.invariant c.loop-place-test.false
