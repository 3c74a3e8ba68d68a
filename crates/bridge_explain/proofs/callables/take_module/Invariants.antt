use Rattle.std.proofs.Common.{◌≡◌, take}
use Rattle.std.specs.Prelude.{codes}
use Rattle.std.specs.List.{join_by}
use Rattle.bridge_comparing.specs.Words.{once_taken}
use Rattle.bridge_explain.proofs.callables.take_module.Given as goal

abbrev pub invariant-loop-place : goal.invariant-loop-place
invariant-loop-place l = l.left ≡ once_taken (join_by (λ segment. segment) (codes "::") (take l.place l.path)) l.fn.left
