use Rattle.bridge_grid.specs.ItemBreaks.{FreeFunctionBreaks}
use Rattle.bridge_grid.specs.Items.{free_function_faults}
use Rattle.hir_backends.specs.declared.support.flag.SupportFlag.TheVariants as flag
use Rattle.bridge_grid.proofs.TellsLemmas.{told_of}
use Rattle.bridge_grid.proofs.CellLemmas.{tells_denied}
use Rattle.bridge_grid.proofs.testing.test_free_function.Goals as goal

pub returns-clause-rules : goal.returns-clause-rules
returns-clause-rules c =
    let a = c.args in
    told_of c.free_function_faults.result (free_function_faults a.support.now) (FreeFunctionBreaks a.support.now) c.free_function_faults.ensures (tells_denied a.support.now flag.FreeFunctions)
