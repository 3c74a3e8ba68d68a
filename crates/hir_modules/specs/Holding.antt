-- What a store of reports still holds after a walk, wherever the walk stands.
use Rattle.std.specs.Prelude.{◌≡◌, List, ◌++◌}
use Rattle.hir_reports.specs.Store.{Held}
use Rattle.hir_reports.specs.declared.report.LoweringReport.{LoweringReport}

-- the first reports are those of before; the place may be another
pub record HoldsStill (old new : Held) : Type 0 where
  pub more : List LoweringReport
  pub reports : new.reports ≡ old.reports ++ more
