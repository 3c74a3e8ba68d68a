use Rattle.hir_form.specs.ParamForms.{out_type_form}
use Rattle.hir_reports.proofs.StoreLaws.{added_step}
use Rattle.hir_traits.proofs.JudgeLemmas.{each_given}
use Rattle.hir_traits.specs.TraitTypes.{trait_param_errors}
use Rattle.hir_traits.proofs.judging.judge_params.Goals as goal

pub loop-ty-preserved : goal.loop-ty-preserved
loop-ty-preserved g c =
    let errors = trait_param_errors c.args.lowering.now.support.now c.args.lowering.now.config c.args.lowering.now.catalog.now in
    record {
      told =
          added_step errors c.args.errors.now c.loop-ty.errors _ c.args.types.now c.loop-ty.ty-index c.ty-item.result c.loop-ty-test.true c.loop-ty.invariant.told
          (rw (← c.ty-item.is) c.in_ok-one.ensures.told);
      made =
          each_given errors (out_type_form c.args.lowering.now.catalog.now) c.args.types.now c.loop-ty.ty-index c.ty-item.result c.loop-ty.made _ c.in_ok-one.one
          c.loop-ty-test.true c.loop-ty.invariant.made (rw (← c.ty-item.is) c.in_ok-one.ensures.made) c.in_ok-keep.ensures;
      kept = λ earlier keeps. c.in_ok-one.ensures.kept earlier (c.loop-ty.invariant.kept earlier keeps);
    }
