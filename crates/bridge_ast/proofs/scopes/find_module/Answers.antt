use Rattle.bridge_ast.proofs.ScopeLemmas.{root_stands, walked, stopped}
use Rattle.bridge_ast.proofs.scopes.find_module.Goals as goal
use Rattle.std.proofs.Common.{◌∙◌, sym}

pub loop-segment-init : goal.loop-segment-init
loop-segment-init c = λ modules known. root_stands c.args.scopes.now modules known (sym c.is_empty.ensures ∙ c.if-is_empty.false)

pub returns-in_err-number : goal.returns-in_err-number
returns-in_err-number c = λ modules known.
    let so_far = c.loop-segment.invariant modules known in
    c.from_residual.ensures
    ∙ stopped modules known.paths c.args.path.now c.loop-segment.segment-index c.segment-item.result so_far.0
    c.loop-segment-test.true c.segment-item.is so_far.2 (c.in_err-number.ensures modules so_far.0 known so_far.1)

pub loop-segment-preserved : goal.loop-segment-preserved
loop-segment-preserved c = λ modules known.
    let so_far = c.loop-segment.invariant modules known in
    walked modules known.paths c.args.path.now c.loop-segment.segment-index c.segment-item.result so_far.0
    c.loop-segment-test.true c.segment-item.is so_far.2 c.in_ok-number.number
    (c.in_ok-number.ensures modules so_far.0 known so_far.1)
