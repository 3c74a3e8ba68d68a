-- How far what passed the tests comes, by what came of numbering it.
use Rattle.std.specs.Prelude.{Result, Ok, Err}
use Rattle.hir_number.specs.declared.fault.NumberFault.{NumberFault}
use Rattle.hir_number.specs.declared.trait_methods.NumberedTraitMethod.{NumberedTraitMethod}
use Rattle.hir_traits.specs.TraitStages.{TraitMethodStage, TraitJudged, TraitUnnumbered}

-- so far
abbrev pub trait_stage_of : Result NumberedTraitMethod NumberFault → TraitMethodStage
trait_stage_of (Ok n) = TraitJudged n
trait_stage_of (Err fault) = TraitUnnumbered fault
