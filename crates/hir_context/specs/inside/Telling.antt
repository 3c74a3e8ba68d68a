-- What the calls tell one another of definitions: something that doesn't fit, or that all fits.
use Rattle.std.specs.Prelude.{◌≡◌, ℕ, List, Option, Some, None, slice_get}
use Rattle.hir_ids.specs.declared.ids.SymbolId.{SymbolId}
use Rattle.hir_fitting.specs.Parts.{Part, DefinitionFits, DefinitionMisfits}
use Rattle.hir_fitting.specs.declared.census.Census.{Census}
use Rattle.hir_fitting.specs.declared.definitions.Unfit.{Unfit}
use Rattle.hir_context.specs.Fitness.{AllFit, AllNamed, IsUnfit}
use Rattle.hir_context.specs.declared.parts.Definitions.{Definitions}

-- what is told of definitions whose ids are these, and each of which has these parts: something that doesn't fit in one of them,
-- or that each fits
abbrev pub TellsOfKind : Census → (ℕ → SymbolId) → List (List Part) → Option Unfit → Type 0
TellsOfKind census symbol_at each None = (place : ℕ) (parts : List Part) → slice_get each place ≡ Some parts → DefinitionFits census parts
TellsOfKind census symbol_at each (Some unfit) =
    (place : ℕ) × ((parts : List Part) × (unfit.holder ≡ symbol_at place) × (slice_get each place ≡ Some parts)
    × DefinitionMisfits census unfit.holder parts unfit.named)

-- what is told of what definitions name: something that doesn't fit, or that all is there
abbrev pub TellsNamed : Definitions → Option Unfit → Type 0
TellsNamed defs None = AllNamed defs
TellsNamed defs (Some unfit) = IsUnfit defs unfit

-- what is told of definitions: something that doesn't fit, or that all fit
abbrev pub TellsUnfit : Definitions → Option Unfit → Type 0
TellsUnfit defs None = AllFit defs
TellsUnfit defs (Some unfit) = IsUnfit defs unfit
