use Rattle.std.proofs.Common.{◌≡◌, take, length}
use Rattle.std.specs.Prelude.{min, sum_by}
use Rattle.bridge_summary.specs.Summary.{most_listed}
use Rattle.bridge_summary.proofs.summary.listed_in.Given as goal

abbrev pub invariant-loop-returned : goal.invariant-loop-returned
invariant-loop-returned l = l.listed ≡ min most_listed (sum_by (λ returned. length returned.leaves) (take l.returned-index l.report.returned))
