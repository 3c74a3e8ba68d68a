use Rattle.std.proofs.Common.{◌≡◌, take}
use Rattle.std.specs.List.{flat_map}
use Rattle.hir_methods.specs.inside.Parts.{GivenUnlessTold}
use Rattle.hir_reports.specs.Store.{Held, Keeps, added}
use Rattle.hir_traits.specs.TraitTypes.{trait_param_errors, trait_params_form}
use Rattle.hir_traits.proofs.judging.judge_params.Given as goal

abbrev pub invariant-loop-ty : goal.invariant-loop-ty
invariant-loop-ty g l =
    let errors = trait_param_errors l.lowering.support.now l.lowering.config l.lowering.catalog.now in
    record {
      told : l.errors ≡ added l.fn.errors (flat_map errors (take l.ty-index l.types));
      made : GivenUnlessTold (flat_map errors (take l.ty-index l.types)) (trait_params_form l.lowering.catalog.now (take l.ty-index l.types)) l.made;
      kept : (earlier : Held) → Keeps earlier l.fn.errors → Keeps earlier l.errors;
    }
