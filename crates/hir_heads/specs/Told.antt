-- What is made of a declaration that is told with all that is wrong in it.
use Rattle.std.specs.Prelude.{◌≡◌, List, [], Option, Some}
use Rattle.hir_reports.specs.declared.report.LoweringError.{LoweringError}

-- where nothing is told, the form is made
abbrev pub MadeUnlessTold : {A : Type 0} → List LoweringError → A → Option A → Type 0
MadeUnlessTold errors form made = errors ≡ [] → made ≡ Some form
