use Rattle.std.proofs.Common.{take}
use Rattle.hir_borrowing_params.specs.inside.Starting.{StartsAt}
use Rattle.hir_borrowing_params.proofs.starts.starts.Given as goal

abbrev pub invariant-loop-key : goal.invariant-loop-key
invariant-loop-key l = StartsAt l.env (take l.key-index l.keys) l.map
