use Rattle.bridge_grid.specs.ItemBreaks.{ReceiverBreaks}
use Rattle.bridge_grid.specs.Items.{receiver_faults}
use Rattle.bridge_grid.proofs.TellsLemmas.{told_of}
use Rattle.bridge_grid.proofs.TypeLemmas.{tells_receiver}
use Rattle.bridge_grid.proofs.testing.test_receiver.Goals as goal

pub returns-clause-rules : goal.returns-clause-rules
returns-clause-rules c =
    let a = c.args in
    told_of c.receiver_faults.result (receiver_faults a.support.now a.catalog.now a.borrow a.place) (ReceiverBreaks a.support.now a.catalog.now a.borrow a.place) c.receiver_faults.ensures (tells_receiver a.support.now a.catalog.now a.borrow a.place)
