-- Why parts make no context.
use Rattle.std.specs.Prelude.{⊤}
use Rattle.hir_context.specs.Fitness.{IsUnfit}
use Rattle.hir_context.specs.Listing.{AreDefinitions}
use Rattle.hir_context.specs.declared.context.ContextFault.{ContextFault}
use Rattle.hir_context.specs.declared.context.ContextFault.TheVariants as fault
use Rattle.hir_context.specs.declared.parts.ContextParts.{ContextParts}
use Rattle.hir_context.specs.declared.parts.Definitions.{Definitions}

-- something in their definitions doesn't fit, or there was no memory
abbrev pub IsContextFault : ContextParts → ContextFault → Type 0
IsContextFault parts (fault.Unfit unfit) = (defs : Definitions) × AreDefinitions parts defs × IsUnfit defs unfit
IsContextFault parts fault.NoMemory = ⊤
