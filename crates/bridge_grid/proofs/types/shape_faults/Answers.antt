use Rattle.bridge_grid.specs.Faults.{inside_shape_faults, part_inside, shape_inside}
use Rattle.bridge_grid.proofs.FaultLemmas.{refused}
use Rattle.bridge_grid.proofs.types.shape_faults.Goals as goal

pub returns-else-is_empty : goal.returns-else-is_empty
returns-else-is_empty c = rw (← c.cell_of.ensures) (rw (← c.in_ok-own.ensures) (refused _ c.in_ok-own.own (inside_shape_faults c.args.support.now c.args.at (part_inside c.args.shape c.args.part) (shape_inside c.args.shape)) c.is_empty.ensures c.if-is_empty.false))
