-- What declarations are answered with: their context with what the results of their callables may borrow, where no rule is broken; or what is
-- broken, each told at its place.
use Rattle.std.specs.Prelude.{◌≡◌, ◌≢◌, ◌⊎◌, ⊤, List, [], ℕ, Result, Ok, Err}
use Rattle.bridge_callables.specs.Declared.{declared_callables}
use Rattle.bridge_decl.specs.declared.modules.Module.{Module}
use Rattle.bridge_report.specs.Borrowings.{AreReported}
use Rattle.bridge_report.specs.InContext.{callables}
use Rattle.bridge_report.specs.Page.{IsPage}
use Rattle.bridge_report.specs.declared.report.BridgeReport.{BridgeReport}
use Rattle.bridge_telling.specs.Telling.{TellsPlaces}
use Rattle.bridge_validation.specs.Told.{context_reports}
use Rattle.hir_backends.specs.Backend.{Backend}
use Rattle.hir_config.specs.declared.config.LoweringConfig.{LoweringConfig}
use Rattle.hir_context.specs.declared.parts.Definitions.{Definitions}
use Rattle.hir_lower.specs.Contexts.{StandForItems}
use Rattle.hir_lower.specs.Refusals.{IsRefusal}
use Rattle.hir_lower.specs.declared.fault.LowerFault.{LowerFault}
use Rattle.hir_lower.specs.declared.fault.LowerFault.TheVariants as fault
use Rattle.hir_lowering.specs.Interface.{Interface}
use Rattle.hir_reports.specs.declared.report.LoweringReport.{LoweringReport}
use Rattle.bridge_lowering.specs.Broken.{Break, BreakNothing, HoldsOf}

-- the context stands for the declarations, and each of their callables is reported, in order
pub record AreBorrowed (it : Interface) (report : BridgeReport) : Type 0 where
  pub stand : StandForItems it report.tcx.definitions
  -- the callables of the context are those that are declared
  pub same : callables report.tcx.definitions ≡ declared_callables it
  pub reported : AreReported (declared_callables it) report.callables

-- those of types, traits and functions of the context that stands for the declarations
pub record AreOfContext (it : Interface) (told : List LoweringReport) : Type 0 where
  pub definitions : Definitions
  pub stand : StandForItems it definitions
  pub is : told ≡ context_reports it.backend.supports.callback_returns_must_be_fallible definitions

-- they come in order: those of modules and then those of items, kind by kind; or those of types, traits and functions
abbrev pub AreInOrder : Interface → List LoweringReport → Type 0
AreInOrder it told = IsRefusal it told ⊎ AreOfContext it told

-- what is told of declarations that break a rule: each report tells one that is broken, at its place; and each place at which one is has a
-- report
pub record AreRefusedWith (modules : List Module) (backend : Backend) (config : LoweringConfig) (told : List LoweringReport) : Type 0 where
  pub some : told ≢ []
  pub broken : TellsPlaces (λ r. r.context) told (Break modules backend config)
  pub ordered : HoldsOf modules backend config (λ it. AreInOrder it told)

-- the page of declarations: that of their callables
abbrev pub IsPageOf : List Module → Backend → LoweringConfig → List ℕ → Type 0
IsPageOf modules backend config text = HoldsOf modules backend config (λ it. IsPage (declared_callables it) text)

-- no rule is broken, and this is the report of the declarations
pub record AreAcceptedWith (modules : List Module) (backend : Backend) (config : LoweringConfig) (report : BridgeReport) : Type 0 where
  pub unbroken : BreakNothing modules backend config
  pub borrowed : HoldsOf modules backend config (λ it. AreBorrowed it report)

-- the report, or what is broken, or want of memory
abbrev pub AnswersReport : List Module → Backend → LoweringConfig → Result BridgeReport LowerFault → Type 0
AnswersReport modules backend config (Ok report) = AreAcceptedWith modules backend config report
AnswersReport modules backend config (Err (fault.Refused told)) = AreRefusedWith modules backend config told.items
AnswersReport modules backend config (Err fault.NoMemory) = ⊤
