use Rattle.bridge_grid.specs.ItemBreaks.{TraitBreaks}
use Rattle.bridge_grid.specs.Items.{trait_faults}
use Rattle.bridge_grid.proofs.TellsLemmas.{told_of}
use Rattle.bridge_grid.proofs.TypeLemmas.{tells_trait}
use Rattle.bridge_grid.proofs.testing.test_trait.Goals as goal

pub returns-clause-rules : goal.returns-clause-rules
returns-clause-rules c =
    let a = c.args in
    told_of c.trait_faults.result (trait_faults a.support.now a.is_send a.is_sync) (TraitBreaks a.support.now a.is_send a.is_sync) c.trait_faults.ensures (tells_trait a.support.now a.is_send a.is_sync)
