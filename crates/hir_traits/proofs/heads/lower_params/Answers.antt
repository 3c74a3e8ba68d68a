use Rattle.hir_heads.specs.Names.{name_errors}
use Rattle.hir_methods.proofs.MadeLemmas.{kept_made}
use Rattle.hir_reports.proofs.StoreLaws.{added_step}
use Rattle.hir_traits.specs.TraitMethods.{unmarked_param}
use Rattle.hir_traits.proofs.heads.lower_params.Goals as goal

pub loop-param-preserved : goal.loop-param-preserved
loop-param-preserved c =
    record {
      told =
          added_step (λ param. name_errors param.name) c.args.errors.now c.loop-param.errors _ c.args.params.now c.loop-param.param-index c.param-item.result
          c.loop-param-test.true c.loop-param.invariant.told (rw (← c.param-item.is) c.in_ok-one.ensures.told);
      made =
          kept_made (λ param. name_errors param.name) unmarked_param c.args.params.now c.loop-param.param-index c.param-item.result c.loop-param.lowered _ c.in_ok-one.one
          c.loop-param-test.true c.loop-param.invariant.made (rw (← c.param-item.is) c.in_ok-one.ensures.made) c.in_ok-keep.ensures;
      kept = λ earlier keeps. c.in_ok-one.ensures.kept earlier (c.loop-param.invariant.kept earlier keeps);
    }
