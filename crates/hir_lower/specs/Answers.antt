-- What declarations are answered with, in terms of the rules: their context, where nothing is broken; or what is broken, each told at its
-- place. Paths mean what they name.
use Rattle.std.specs.Prelude.{◌≢◌, ⊤, List, [], Result, Ok, Err}
use Rattle.bridge_decl.specs.declared.modules.Module.{Module}
use Rattle.bridge_telling.specs.Telling.{TellsPlaces}
use Rattle.hir_backends.specs.Backend.{Backend}
use Rattle.hir_config.specs.declared.config.LoweringConfig.{LoweringConfig}
use Rattle.hir_context.specs.declared.context.TypeContext.{TypeContext}
use Rattle.hir_context.specs.declared.parts.Definitions.{Definitions}
use Rattle.hir_lowering.specs.Interface.{Interface}
use Rattle.hir_naming.specs.Meaning.{naming_of}
use Rattle.hir_reports.specs.declared.report.LoweringReport.{LoweringReport}
use Rattle.hir_rules.specs.Broken.{IsBroken}
use Rattle.hir_lower.specs.Acceptance.{HoldsByCatalog}
use Rattle.hir_lower.specs.Contexts.{StandForItems}
use Rattle.hir_lower.specs.Refusals.{IsRefusal}
use Rattle.hir_lower.specs.declared.fault.LowerFault.{LowerFault}
use Rattle.hir_lower.specs.declared.fault.LowerFault.TheVariants as fault

-- no rule is broken, and these definitions stand for the declarations
pub record AreStoodFor (it : Interface) (defs : Definitions) : Type 0 where
  pub unbroken : (r : LoweringReport) → ¬ (IsBroken it r)
  pub stand : StandForItems it defs

-- some rule is broken: each report tells one that is, at its place; and each place at which one is has a report. They come in order: first
-- those of modules, then those of items, kind by kind
pub record AreToldOf (it : Interface) (told : List LoweringReport) : Type 0 where
  pub some : told ≢ []
  pub broken : TellsPlaces (λ r. r.context) told (IsBroken it)
  pub ordered : IsRefusal it told

-- the context, or what is broken, or want of memory
abbrev pub AnswersDeclarations : List Module → Backend → LoweringConfig → Result TypeContext LowerFault → Type 0
AnswersDeclarations modules backend config (Ok tcx) =
    HoldsByCatalog modules backend config (naming_of modules) (λ it. AreStoodFor it tcx.definitions)
AnswersDeclarations modules backend config (Err (fault.Refused told)) =
    HoldsByCatalog modules backend config (naming_of modules) (λ it. AreToldOf it told.items)
AnswersDeclarations modules backend config (Err fault.NoMemory) = ⊤
