-- How far the types of a method or a function come, what is told of them there, and what is made of them.
use Rattle.std.specs.Prelude.{◌≡◌, ◌≢◌, List, [], map, Option, None, option_map, Result, Err}
use Rattle.bridge_decl.specs.declared.lifetimes.LifetimeEnv.{LifetimeEnv}
use Rattle.bridge_decl.specs.declared.types.WriteType.{WriteType}
use Rattle.bridge_grid.specs.Telling.{fault_error}
use Rattle.bridge_grid.specs.declared.fault.TypeFault.{TypeFault}
use Rattle.bridge_order.specs.declared.catalog.Catalog.{Catalog}
use Rattle.hir_form.specs.Judging.{IsJudged}
use Rattle.hir_form.specs.SignatureForms.{signature_form}
use Rattle.hir_life.specs.Declarations.{HasIdents}
use Rattle.hir_number.specs.Breaches.{Broken}
use Rattle.hir_number.specs.Faults.{IsOfElision}
use Rattle.hir_number.specs.Shapes.{NumberLists}
use Rattle.hir_number.specs.declared.fault.NumberFault.{NumberFault}
use Rattle.hir_number.specs.declared.signature.NumberedSignature.{NumberedSignature}
use Rattle.hir_reports.specs.Store.{Held, added}
use Rattle.hir_reports.specs.declared.report.LoweringError.{LoweringError}
use Rattle.hir_signatures.specs.declared.signatures.SignatureTypes.{SignatureTypes}
use Rattle.hir_signatures.specs.Errors.{breach_error, number_errors}

-- how far types come
pub data Stage : Type 0 where
  -- their paths or lifetimes have breaches
  Breached : Stage
  -- they have none, but the name of a declared lifetime is no identifier
  Misnamed : Stage
  -- all are, but a lifetime has no number
  Unnumbered : NumberFault → Stage
  -- each has one, and so they are judged
  Judged : NumberedSignature → Stage

-- the types of a signature come so far: it has these breaches, declares these lifetimes, its uses of lifetimes have these
-- numbers, and `IsIt` says which numbered signature it is
abbrev pub ComesTo : List Broken → LifetimeEnv → Result NumberLists NumberFault → (NumberedSignature → Type 0) → Stage → Type 0
ComesTo breaches declared numbers IsIt Breached = breaches ≢ []
ComesTo breaches declared numbers IsIt Misnamed = (breaches ≡ []) × ¬ (HasIdents declared)
ComesTo breaches declared numbers IsIt (Unnumbered fault) = (breaches ≡ []) × (HasIdents declared × (IsOfElision fault × (numbers ≡ Err fault)))
ComesTo breaches declared numbers IsIt (Judged n) = (breaches ≡ []) × (HasIdents declared × IsIt n)

-- what is told there: each breach, or why a lifetime has no number, or each fault of the types where they stand
abbrev pub stage_errors : List Broken → (NumberedSignature → List TypeFault) → Stage → List LoweringError
stage_errors breaches faults Breached = map breach_error breaches
stage_errors breaches faults Misnamed = []
stage_errors breaches faults (Unnumbered fault) = number_errors fault
stage_errors breaches faults (Judged n) = map fault_error (faults n)

-- what a numbered signature stands for, with its lifetimes
abbrev pub types_form : Catalog → Option WriteType → NumberedSignature → Option SignatureTypes
types_form catalog written n = option_map (λ types. record { types = types; lifetimes = n.lifetimes }) (signature_form catalog written n)

-- what is made there: nothing before the types are judged, and then what they stand for, where they have no fault
abbrev pub IsMade : (NumberedSignature → List TypeFault) → (NumberedSignature → Option SignatureTypes) → Stage → Option SignatureTypes → Type 0
IsMade faults form Breached made = made ≡ None
IsMade faults form Misnamed made = made ≡ None
IsMade faults form (Unnumbered fault) made = made ≡ None
IsMade faults form (Judged n) made = IsJudged (faults n) (form n) made

-- the types came so far, and that is told and made of them: the reports are those and what is told, at the place
pub record IsLowered (breaches : List Broken) (Comes : Stage → Type 0) (faults : NumberedSignature → List TypeFault)
    (form : NumberedSignature → Option SignatureTypes) (old new : Held) (answer : Option SignatureTypes) : Type 0 where
  pub stage : Stage
  pub comes : Comes stage
  pub told : new ≡ added old (stage_errors breaches faults stage)
  pub made : IsMade faults form stage answer
