use Rattle.std.proofs.Common.{take}
use Rattle.hir_borrowing_params.specs.Answering.{MapsRows, is_own_at}
use Rattle.hir_borrowing_params.proofs.own.own_sets.Given as goal

abbrev pub invariant-loop-number : goal.invariant-loop-number
invariant-loop-number l = MapsRows (is_own_at l.env.count) (take l.number l.args) l.sets
