-- What is told of a type, and what is made of it.
use Rattle.std.specs.Prelude.{◌≡◌, ◌≢◌, List, [], Option, Some, None, map}
use Rattle.bridge_grid.specs.Telling.{fault_error}
use Rattle.bridge_grid.specs.declared.fault.TypeFault.{TypeFault}
use Rattle.hir_reports.specs.Store.{Held, added}

-- the reports and one for each fault, in order, at the place
abbrev pub with_faults : Held → List TypeFault → Held
with_faults held faults = added held (map fault_error faults)

-- what a type stands for was made, since nothing is wrong with it; or nothing was made, since something is
abbrev pub IsJudged : {A : Type 0} → List TypeFault → Option A → Option A → Type 0
IsJudged faults form (Some made) = (faults ≡ []) × (form ≡ Some made)
IsJudged faults form None = faults ≢ []
