-- What the calls tell one another of contexts.
use Rattle.std.specs.Prelude.{⊤, ℕ, List, Result, Ok, Err}
use Rattle.bridge_decl.specs.declared.modules.Module.{Module}
use Rattle.hir_backends.specs.Backend.{Backend}
use Rattle.hir_config.specs.declared.config.LoweringConfig.{LoweringConfig}
use Rattle.hir_context.specs.Fitness.{IsUnfit}
use Rattle.hir_context.specs.Listing.{AreDefinitions}
use Rattle.hir_context.specs.declared.context.TypeContext.{TypeContext}
use Rattle.hir_context.specs.declared.parts.ContextParts.{ContextParts}
use Rattle.hir_context.specs.declared.parts.Definitions.{Definitions}
use Rattle.hir_fitting.specs.declared.definitions.Unfit.{Unfit}
use Rattle.hir_number.specs.Naming.{Naming}
use Rattle.hir_usage_notes.specs.Notes.{HaveUsages}
use Rattle.hir_usage_notes.specs.declared.definitions.LoweredDefinitions.{LoweredDefinitions}
use Rattle.hir_lower.specs.Acceptance.{HoldsByCatalog}
use Rattle.hir_lower.specs.Contexts.{StandForItems}
use Rattle.hir_lower.specs.Refusals.{IsRefusal}
use Rattle.hir_lower.specs.inside.Parts.{AreParts}
use Rattle.hir_lower.specs.declared.fault.LowerFault.{LowerFault}
use Rattle.hir_lower.specs.declared.fault.LowerFault.TheVariants as fault

-- these definitions in their places, over parts
pub record PlacedAs (modules : List Module) (d : LoweredDefinitions) (defs : Definitions) : Type 0 where
  pub parts : ContextParts
  pub are : AreParts modules d parts
  pub lists : AreDefinitions parts defs

-- the same once their uses are noted
pub record UsedAs (modules : List Module) (d : LoweredDefinitions) (defs : Definitions) : Type 0 where
  pub used : LoweredDefinitions
  pub noted : HaveUsages d used
  pub placed : PlacedAs modules used defs

-- there would be such definitions that don't fit
pub record HasUnfit (P : Definitions → Type 0) : Type 0 where
  pub defs : Definitions
  pub such : P defs
  pub unfit : Unfit
  pub is : IsUnfit defs unfit

-- a context of such definitions; anything is told only where they don't fit
abbrev pub IsContextOf : (Definitions → Type 0) → Result TypeContext LowerFault → Type 0
IsContextOf P (Ok tcx) = P tcx.definitions
IsContextOf P (Err (fault.Refused told)) = HasUnfit P
IsContextOf P (Err fault.NoMemory) = ⊤

-- the context, or all that is wrong, or want of memory
abbrev pub AnswersContext : List Module → Backend → LoweringConfig → (ℕ → Naming) → Result TypeContext LowerFault → Type 0
AnswersContext modules backend config names (Ok tcx) = HoldsByCatalog modules backend config names (λ it. StandForItems it tcx.definitions)
AnswersContext modules backend config names (Err (fault.Refused told)) = HoldsByCatalog modules backend config names (λ it. IsRefusal it told.items)
AnswersContext modules backend config names (Err fault.NoMemory) = ⊤
