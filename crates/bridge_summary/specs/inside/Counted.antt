-- How many leaves a report lists.
use Rattle.std.specs.Prelude.{ℕ, length, sum_by}
use Rattle.bridge_report.specs.declared.report.CallableReport.{CallableReport}

-- under all lifetimes that it returns together
abbrev pub listed_in : CallableReport → ℕ
listed_in report = sum_by (λ returned. length returned.leaves) report.returned
