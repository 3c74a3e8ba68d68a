use Rattle.hir_skeleton.proofs.Positions.{receiver_is_type}
use Rattle.hir_skeleton.proofs.laws.receivers_are_types.Goals as goal

pub returns : goal.returns
returns c = λ r. receiver_is_type r
