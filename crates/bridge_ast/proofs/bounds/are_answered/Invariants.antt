use Rattle.std.proofs.Common.{◌≡◌, true, take, nat_le, ◌||◌}
use Rattle.std.specs.List.{list_all}
use Rattle.std.specs.List.Sorted.{IsNonDecreasing}
use Rattle.bridge_ast.specs.Bounds.{has_number}
use Rattle.bridge_ast.proofs.bounds.are_answered.Given as goal

abbrev pub invariant-loop-to : goal.invariant-loop-to
invariant-loop-to l =
    IsNonDecreasing l.listers
    → list_all (λ to. nat_le l.count to || has_number to l.listers) (take l.to-index l.listed) ≡ true
