use Rattle.hir_reports.proofs.StoreLaws.{added_step}
use Rattle.hir_methods.proofs.MadeLemmas.{kept_made}
use Rattle.hir_methods.specs.Untyped.{untyped_errors, untyped_form}
use Rattle.hir_methods.proofs.params.lower_each_untyped.Goals as goal

pub loop-param-preserved : goal.loop-param-preserved
loop-param-preserved g c =
    let backend = g.V.AttributeValidator.meaning c.args.validator.now in
    record {
      told =
          added_step (untyped_errors backend) c.args.errors.now c.loop-param.errors _ c.args.params.now c.loop-param.param-index c.param-item.result
          c.loop-param-test.true c.loop-param.invariant.told (rw (← c.param-item.is) c.in_ok-one.ensures.told);
      made =
          kept_made (untyped_errors backend) (untyped_form backend) c.args.params.now c.loop-param.param-index c.param-item.result c.loop-param.lowered _ c.in_ok-one.one
          c.loop-param-test.true c.loop-param.invariant.made (rw (← c.param-item.is) c.in_ok-one.ensures.made) c.in_ok-keep.ensures;
      kept = λ earlier keeps. c.in_ok-one.ensures.kept earlier (c.loop-param.invariant.kept earlier keeps);
    }
