-- What the calls tell one another.
use Rattle.std.specs.Prelude.{◌≡◌, ◌≢◌, ◌++◌, ⊤, ℕ, List, [], Result, Ok, Err}
use Rattle.bridge_decl.specs.declared.modules.Module.{Module}
use Rattle.hir_backends.specs.Backend.{Backend}
use Rattle.hir_config.specs.declared.config.LoweringConfig.{LoweringConfig}
use Rattle.hir_number.specs.Naming.{Naming}
use Rattle.hir_reports.specs.declared.report.LoweringReport.{LoweringReport}
use Rattle.hir_usage_notes.specs.declared.definitions.LoweredDefinitions.{LoweredDefinitions}
use Rattle.hir_lowering.specs.Interface.{Interface}
use Rattle.hir_lowering.specs.Lowered.{AreLowered, lowering_reports}
use Rattle.hir_lower.specs.Acceptance.{AreAccepted, HoldsByCatalog}
use Rattle.hir_lower.specs.Refusals.{IsRefusal, TellsNestingOf}
use Rattle.hir_lower.specs.declared.fault.LowerFault.{LowerFault}
use Rattle.hir_lower.specs.declared.fault.LowerFault.TheVariants as fault

-- what a store that was empty gained of declarations: all that is told of them, or, where nothing is, all that is told of how the
-- structs of their definitions nest
pub data IsWholeTelling (it : Interface) (d : LoweredDefinitions) (told : List LoweringReport) : Type 0 where
  Items : told ≢ [] → told ≡ lowering_reports it → IsWholeTelling it d told
  Structs : lowering_reports it ≡ [] → AreLowered it d → TellsNestingOf it.modules d told → IsWholeTelling it d told

-- so, where memory suffices
abbrev pub TellsAll : {E : Type 0} → List Module → Backend → LoweringConfig → (ℕ → Naming) → List LoweringReport → Result LoweredDefinitions E → Type 0
TellsAll modules backend config names told (Ok d) = HoldsByCatalog modules backend config names (λ it. IsWholeTelling it d told)
TellsAll modules backend config names told (Err e) = ⊤

-- the definitions of all items, or all that is wrong, or want of memory
abbrev pub AnswersAll : List Module → Backend → LoweringConfig → (ℕ → Naming) → Result LoweredDefinitions LowerFault → Type 0
AnswersAll modules backend config names (Ok d) = HoldsByCatalog modules backend config names (λ it. AreAccepted it d)
AnswersAll modules backend config names (Err (fault.Refused told)) = HoldsByCatalog modules backend config names (λ it. IsRefusal it told.items)
AnswersAll modules backend config names (Err fault.NoMemory) = ⊤

-- a value where nothing is told, and else what is
abbrev pub GivesUnlessTold : {T : Type 0} → List LoweringReport → T → Result T LowerFault → Type 0
GivesUnlessTold told value (Ok it) = (told ≡ []) × (it ≡ value)
GivesUnlessTold told value (Err (fault.Refused list)) = (list.items ≡ told) × (told ≢ [])
GivesUnlessTold told value (Err fault.NoMemory) = ⊥

-- the reports have gained what is told of how the structs of definitions nest
pub record TellsNestingAfter (modules : List Module) (d : LoweredDefinitions) (old new : List LoweringReport) : Type 0 where
  pub told : List LoweringReport
  pub tells : TellsNestingOf modules d told
  pub gained : new ≡ old ++ told
