use Rattle.std.proofs.Common.{take}
use Rattle.hir_borrowing_params.specs.Answering.{MapsRows}
use Rattle.hir_borrowing_params.specs.inside.Candidates.{keys_of}
use Rattle.hir_borrowing_params.proofs.answers.sets_under.Given as goal

abbrev pub invariant-loop-number : goal.invariant-loop-number
invariant-loop-number l = MapsRows (keys_of l.map) (take l.number l.candidates) l.sets
