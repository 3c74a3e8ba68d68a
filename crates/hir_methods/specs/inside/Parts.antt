-- What the code has made so far.
use Rattle.std.specs.Prelude.{◌≡◌, List, [], Option}
use Rattle.hir_reports.specs.declared.report.LoweringError.{LoweringError}

-- where nothing is told, it is the form, or nothing where there is none
abbrev pub GivenUnlessTold : {A : Type 0} → List LoweringError → Option A → Option A → Type 0
GivenUnlessTold errors form made = errors ≡ [] → made ≡ form
