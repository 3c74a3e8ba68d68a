use Rattle.bridge_grid.specs.ItemBreaks.{WriterBreaks}
use Rattle.bridge_grid.specs.Items.{writer_faults}
use Rattle.bridge_grid.proofs.TellsLemmas.{told_of}
use Rattle.bridge_grid.proofs.TypeLemmas.{tells_writer}
use Rattle.bridge_grid.proofs.testing.test_writer.Goals as goal

pub returns-clause-rules : goal.returns-clause-rules
returns-clause-rules c =
    let a = c.args in
    told_of c.writer_faults.result (writer_faults a.support.now a.writer) (WriterBreaks a.support.now a.writer) c.writer_faults.ensures (tells_writer a.support.now a.writer)
