-- The lines of reports.
use Rattle.std.specs.Prelude.{ℕ, List, ◌++◌, codes, decimal, length}
use Rattle.std.specs.List.{flat_map}
use Rattle.hir_reports.specs.Texts.{report_text}
use Rattle.hir_reports.specs.declared.report.LoweringReport.{LoweringReport}

-- how many they are
abbrev pub refused_line : ℕ → List ℕ
refused_line count = codes "refused " ++ decimal count ++ codes "\n"

-- the two lines of each report, and last how many they are
abbrev pub lines : List LoweringReport → List ℕ
lines reports = flat_map report_text reports ++ refused_line (length reports)
