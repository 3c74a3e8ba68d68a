use Rattle.std.specs.Prelude.{codes}
use Rattle.bridge_outside.proofs.PrintingLaws.{prints_nothing}
use Rattle.bridge_outside.proofs.JoinedLists.{prints_more, prints_all}
use Rattle.bridge_printing.proofs.places.put_module.Goals as goal

pub loop-place-init : goal.loop-place-init
loop-place-init g c = prints_nothing

pub loop-place-preserved : goal.loop-place-preserved
loop-place-preserved g c = prints_more (λ segment. segment) (codes "::") c.args.path.now c.loop-place.place c.index-path-place.result c.loop-place.invariant c.put_module_segment.ensures c.loop-place-test.true c.index-path-place.is

pub returns : goal.returns
returns g c = prints_all (λ segment. segment) (codes "::") c.args.path.now c.loop-place.place c.loop-place.invariant c.loop-place-test.false
