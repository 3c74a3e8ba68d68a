use Rattle.bridge_grid.specs.Breaks.{TypeBreaks}
use Rattle.bridge_grid.specs.Faults.{type_faults}
use Rattle.bridge_grid.specs.declared.part.Part.TheVariants.{Whole}
use Rattle.bridge_grid.proofs.TellsLemmas.{told_of}
use Rattle.bridge_grid.proofs.TypeLemmas.{tells_type}
use Rattle.bridge_grid.proofs.testing.test_type.Goals as goal

pub returns-clause-rules : goal.returns-clause-rules
returns-clause-rules c =
    let a = c.args in
    told_of c.type_faults.result (type_faults a.support.now a.catalog.now a.at Whole a.ty.now) (TypeBreaks a.support.now a.catalog.now a.at Whole a.ty.now) c.type_faults.ensures (tells_type a.support.now a.catalog.now a.at Whole a.ty.now)
