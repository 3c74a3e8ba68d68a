use Rattle.std.proofs.Common.{◌≡◌, drop}
use Rattle.std.specs.List.{list_any}
use Rattle.hir_skeleton.specs.Leaves.{are_same}
use Rattle.hir_borrowing_fields.proofs.carried.is_among.Given as goal

abbrev pub invariant-loop-other : goal.invariant-loop-other
invariant-loop-other l = list_any (λ x. are_same x l.lifetime) l.lifetimes ≡ list_any (λ x. are_same x l.lifetime) (drop l.other-index l.other-items)
