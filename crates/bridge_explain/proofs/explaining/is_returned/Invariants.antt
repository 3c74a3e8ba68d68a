use Rattle.std.proofs.Common.{◌≡◌, false, nat_eq, take}
use Rattle.std.specs.List.{list_any}
use Rattle.bridge_explain.proofs.explaining.is_returned.Given as goal

abbrev pub invariant-loop-returned : goal.invariant-loop-returned
invariant-loop-returned l = list_any (λ returned. nat_eq l.number returned.lifetime) (take l.returned-index l.report.returned) ≡ false
