use Rattle.std.proofs.Common.{◌≡◌, take}
use Rattle.std.specs.Prelude.{min, sum_by}
use Rattle.bridge_summary.specs.Summary.{most_listed}
use Rattle.bridge_summary.specs.inside.Counted.{listed_in}
use Rattle.bridge_summary.proofs.summary.listed_in_all.Given as goal

abbrev pub invariant-loop-report : goal.invariant-loop-report
invariant-loop-report l = l.listed ≡ min most_listed (sum_by listed_in (take l.report-index l.reports))
