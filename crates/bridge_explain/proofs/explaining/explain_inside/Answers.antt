use Rattle.std.proofs.Common.{sym}
use Rattle.bridge_explain.proofs.Asking.{carries_below, explains_inside, found_none, found_some, is_below, no_such_leaf, not_returned}
use Rattle.bridge_explain.proofs.explaining.explain_inside.Goals as goal

pub returns-then-not-is_returned : goal.returns-then-not-is_returned
returns-then-not-is_returned c = λ callable of leaf.
    not_returned c.args.tcx.now.definitions c.args.report.now callable of c.args.lifetime (sym c.if-not-is_returned.ensures) c.args.leaf.now leaf

pub returns-in_default : goal.returns-in_default
returns-in_default c = λ callable of leaf.
    no_such_leaf c.args.tcx.now.definitions c.args.report.now callable of c.args.lifetime c.fitting_method-method.result.now c.fitting_method-method.ensures.there
    c.in_ok-this.this c.in_ok-this.ensures c.in_ok-leaves.leaves c.in_ok-leaves.ensures c.args.leaf.now
    (found_none _ _ c.in_ok-carried.field-0 c.in_ok-carried.ensures c.in_default.is) leaf

pub explain_leaf-requires-clause-t : goal.explain_leaf-requires-clause-t
explain_leaf-requires-clause-t c =
    rw c.new.ensures
    (is_below c.args.tcx.now.definitions c.args.report.now c.requires.0 c.requires.1 c.args.lifetime c.fitting_method-method.result.now
    c.fitting_method-method.ensures.there c.fitting_method-method.ensures.fits (sym c.if-not-is_returned.ensures))

pub explain_leaf-requires-clause-carried : goal.explain_leaf-requires-clause-carried
explain_leaf-requires-clause-carried c =
    carries_below c.args.tcx.now.definitions c.args.report.now c.requires.0 c.requires.1 c.args.lifetime c.fitting_method-method.result.now
    c.fitting_method-method.ensures.there c.in_ok-this.this c.in_ok-this.ensures c.in_ok-leaves.leaves c.in_ok-leaves.ensures c.args.leaf.now c.in-Some.carried.now
    (found_some _ _ c.in_ok-carried.field-0 c.in-Some.carried c.in_ok-carried.ensures c.in-Some.is)

pub returns : goal.returns
returns c = λ callable of.
    explains_inside c.args.tcx.now.definitions c.args.report.now callable of c.args.lifetime c.fitting_method-method.result.now c.fitting_method-method.ensures.there
    c.in_ok-this.this c.in_ok-this.ensures c.in_ok-leaves.leaves c.in_ok-leaves.ensures c.args.leaf.now c.in-Some.carried.now
    (found_some _ _ c.in_ok-carried.field-0 c.in-Some.carried c.in_ok-carried.ensures c.in-Some.is) (sym c.if-not-is_returned.ensures) c.new.result
    c.new.ensures c.in_ok-explanation.explanation c.in_ok-explanation.ensures.proves c.in_ok-explanation.ensures.kind
