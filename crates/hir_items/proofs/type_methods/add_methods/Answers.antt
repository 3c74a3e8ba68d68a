use Rattle.std.proofs.Common.{subst, sym}
use Rattle.bridge_decl.specs.Lifetimes.{IsSoundEnvironment}
use Rattle.bridge_decl.specs.declared.methods.Method.{Method}
use Rattle.hir_items.specs.Setting.{setting}
use Rattle.hir_items.specs.TypeMethods.{method_reports, one_method_form}
use Rattle.hir_items.proofs.HoldLemmas.{held_then}
use Rattle.hir_items.proofs.MethodLemmas.{all_given_at, methods_go_on}
use Rattle.hir_items.proofs.type_methods.add_methods.Goals as goal

pub lower_at_itself-requires-clause-sound : goal.lower_at_itself-requires-clause-sound
lower_at_itself-requires-clause-sound g c =
    subst (λ (m : Method). IsSoundEnvironment m.lifetime_env) (sym c.method-item.is)
    (all_given_at IsSoundEnvironment (λ (m : Method). m.lifetime_env) c.args.methods.now c.loop-method.method-index c.method-item.result c.requires.sound c.loop-method-test.true)

pub loop-method-preserved : goal.loop-method-preserved
loop-method-preserved g c =
    let at = setting (g.V.AttributeValidator.meaning c.args.lent.now.validator.now) c.args.lent.now in (
      λ names is.
          methods_go_on (λ path item. method_reports (at names) path item c.args.place c.args.module_set.now) (one_method_form (at names) c.args.place c.args.module_set.now) c.args.methods.now
          c.loop-method.method-index c.method-item.result c.args.errors.now c.loop-method.errors c.lower_at_itself.new.errors c.args.lowered.now c.loop-method.lowered c.keep.new.items
          c.in_ok-one.one (c.loop-method.invariant.0 names is) c.loop-method-test.true c.method-item.is (c.in_ok-one.ensures.told names is) (c.in_ok-one.ensures.made names is) c.in_ok-keep.ensures,
      held_then c.args.errors.now c.loop-method.errors c.lower_at_itself.new.errors c.loop-method.invariant.1 c.in_ok-one.ensures.kept,
    )
