-- To which stage the types of a trait's method come, as those of a method of a type come to a stage of `hir_signatures`.
use Rattle.std.specs.Prelude.{List, [], ◌∷◌, map, Option, None, Result, Ok, Err}
use Rattle.bridge_ast.specs.declared.place.ItemPlace.{ItemPlace}
use Rattle.bridge_decl.specs.declared.traits.TraitMethod.{TraitMethod}
use Rattle.hir_heads.specs.Heads.{lifetime_errors}
use Rattle.hir_number.specs.Breaches.{Broken, trait_method_breaches}
use Rattle.hir_number.specs.Naming.{Naming}
use Rattle.hir_number.specs.Numbers.{signature_numbers}
use Rattle.hir_number.specs.Shapes.{NumberLists}
use Rattle.hir_number.specs.Signatures.{trait_method_uses}
use Rattle.hir_number.specs.declared.fault.NumberFault.{NumberFault}
use Rattle.hir_number.specs.declared.trait_methods.NumberedTraitMethod.{NumberedTraitMethod}
use Rattle.hir_reports.specs.declared.report.LoweringError.{LoweringError}
use Rattle.hir_signatures.specs.Errors.{breach_error, number_errors}
use Rattle.hir_stages.specs.Numbering.{filled_trait_method}

-- how far the types of a trait's method come
pub data TraitMethodStage : Type 0 where
  -- their paths or lifetimes have breaches
  TraitBreached : TraitMethodStage
  -- they have none, but the name of a declared lifetime is no identifier
  TraitMisnamed : TraitMethodStage
  -- all are, but a lifetime has no number
  TraitUnnumbered : NumberFault → TraitMethodStage
  -- each has one, and so they are judged
  TraitJudged : NumberedTraitMethod → TraitMethodStage

-- where the names are identifiers: by what the uses are numbered to
abbrev pub trait_numbered_stage : (NumberLists → NumberedTraitMethod) → Result NumberLists NumberFault → TraitMethodStage
trait_numbered_stage filled (Err fault) = TraitUnnumbered fault
trait_numbered_stage filled (Ok numbers) = TraitJudged (filled numbers)

-- where there are no breaches: by what is told of the declared names
abbrev pub trait_named_stage : TraitMethodStage → List LoweringError → TraitMethodStage
trait_named_stage numbered [] = numbered
trait_named_stage numbered (e ∷ es) = TraitMisnamed

-- by the breaches
abbrev pub trait_breached_stage : TraitMethodStage → List Broken → TraitMethodStage
trait_breached_stage named [] = named
trait_breached_stage named (b ∷ bs) = TraitBreached

-- a method of the trait there
abbrev pub trait_method_stage : Naming → ItemPlace → TraitMethod → TraitMethodStage
trait_method_stage names place method =
    trait_breached_stage (trait_named_stage (trait_numbered_stage (filled_trait_method names method) (signature_numbers method.lifetimes (trait_method_uses names method)))
    (lifetime_errors method.lifetimes)) (trait_method_breaches names place method)

-- what is told there: each breach, or nothing, or why a lifetime has no number, or what is wrong with the types where they stand
abbrev pub trait_stage_errors : List Broken → (NumberedTraitMethod → List LoweringError) → TraitMethodStage → List LoweringError
trait_stage_errors breaches judged TraitBreached = map breach_error breaches
trait_stage_errors breaches judged TraitMisnamed = []
trait_stage_errors breaches judged (TraitUnnumbered fault) = number_errors fault
trait_stage_errors breaches judged (TraitJudged n) = judged n

-- what is made there: before the types are judged there is no form
abbrev pub trait_stage_form : {A : Type 0} → (NumberedTraitMethod → Option A) → TraitMethodStage → Option A
trait_stage_form form TraitBreached = None
trait_stage_form form TraitMisnamed = None
trait_stage_form form (TraitUnnumbered fault) = None
trait_stage_form form (TraitJudged n) = form n
