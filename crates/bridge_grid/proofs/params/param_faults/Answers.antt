use Rattle.bridge_grid.specs.Params.{in_param_faults}
use Rattle.bridge_grid.proofs.FaultLemmas.{refused}
use Rattle.bridge_grid.proofs.params.param_faults.Goals as goal

pub returns-else-is_empty : goal.returns-else-is_empty
returns-else-is_empty c = rw (← c.in_ok-own.ensures) (refused _ c.in_ok-own.own (in_param_faults c.args.support.now c.args.config c.args.catalog.now c.args.ty.now) c.is_empty.ensures c.if-is_empty.false)
