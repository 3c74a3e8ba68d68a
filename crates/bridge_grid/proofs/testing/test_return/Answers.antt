use Rattle.bridge_grid.specs.ReturnBreaks.{ReturnBreaks}
use Rattle.bridge_grid.specs.Returns.{returned_faults}
use Rattle.bridge_grid.proofs.TellsLemmas.{told_of}
use Rattle.bridge_grid.proofs.TypeLemmas.{tells_returned}
use Rattle.bridge_grid.proofs.testing.test_return.Goals as goal

pub returns-clause-rules : goal.returns-clause-rules
returns-clause-rules c =
    let a = c.args in
    told_of c.returned_faults.result (returned_faults a.support.now a.catalog.now a.at a.ty.now) (ReturnBreaks a.support.now a.catalog.now a.at a.ty.now) c.returned_faults.ensures (tells_returned a.support.now a.catalog.now a.at a.ty.now)
