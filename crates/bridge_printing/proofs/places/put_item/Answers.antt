use Rattle.bridge_outside.proofs.PrintingLaws.{prints_nothing, prints_same}
use Rattle.bridge_printing.proofs.SegmentLemmas.{unnamed}
use Rattle.bridge_printing.proofs.places.put_item.Goals as goal

pub returns-then-is_empty-clause-printed : goal.returns-then-is_empty-clause-printed
returns-then-is_empty-clause-printed g c = prints_same (unnamed c.args.after c.args.item.now c.is_empty.result c.is_empty.ensures c.if-is_empty.true) prints_nothing
