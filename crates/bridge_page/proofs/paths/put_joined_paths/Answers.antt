use Rattle.std.specs.Prelude.{codes}
use Rattle.bridge_outside.proofs.PrintingLaws.{prints_nothing}
use Rattle.bridge_outside.proofs.JoinedLists.{prints_more, prints_all}
use Rattle.bridge_page.specs.inside.Printed.{leaf_path_text}
use Rattle.bridge_page.proofs.paths.put_joined_paths.Goals as goal

pub loop-place-init : goal.loop-place-init
loop-place-init g c = prints_nothing

pub loop-place-preserved : goal.loop-place-preserved
loop-place-preserved g c =
    prints_more (leaf_path_text c.args.tcx.now.definitions c.args.method.now) (codes ", ") c.args.paths.now c.loop-place.place c.index-paths-place.result c.loop-place.invariant c.put_path_at.ensures
    c.loop-place-test.true c.index-paths-place.is

pub returns : goal.returns
returns g c = prints_all (leaf_path_text c.args.tcx.now.definitions c.args.method.now) (codes ", ") c.args.paths.now c.loop-place.place c.loop-place.invariant c.loop-place-test.false
