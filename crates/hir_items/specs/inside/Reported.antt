-- A store after reports were added.
use Rattle.std.specs.Prelude.{◌≡◌, List, [], ◌++◌, Option}
use Rattle.hir_reports.specs.Store.{Held}
use Rattle.hir_reports.specs.declared.report.LoweringReport.{LoweringReport}

-- with these reports more, at the same place
abbrev pub with_reports : Held → List LoweringReport → Held
with_reports held more = record { reports = held.reports ++ more; place = held.place }

-- where nothing is reported, it is the form, or nothing where there is none
abbrev pub GivenUnlessReported : {A : Type 0} → List LoweringReport → Option A → Option A → Type 0
GivenUnlessReported reports form made = reports ≡ [] → made ≡ form
