-- What is made where nothing is told.
use Rattle.std.specs.Prelude.{◌≡◌, List, [], Option, IsSome}
use Rattle.hir_reports.specs.declared.report.LoweringError.{LoweringError}

-- where nothing is told, there is the form, and it is made
abbrev pub StandsUnlessTold : {A : Type 0} → List LoweringError → Option A → Option A → Type 0
StandsUnlessTold errors form made = errors ≡ [] → IsSome made × (form ≡ made)
