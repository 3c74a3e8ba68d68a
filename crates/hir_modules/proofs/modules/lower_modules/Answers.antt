use Rattle.std.proofs.Common.{◌≡◌, ◌<◌, ap, arith, get_or, length, sym, take, ◌∙◌, subst}
use Rattle.std.proofs.lemmas.List.{take_all, take_more}
use Rattle.bridge_order.specs.Order.{module_order}
use Rattle.hir_modules.specs.ModuleMarks.{numbered_reports}
use Rattle.hir_modules.specs.inside.Walk.{AreRead, HasAround}
use Rattle.hir_modules.proofs.MarkLemmas.{all_read, around_is_read, number_inside, told_more}
use Rattle.hir_modules.proofs.modules.lower_modules.Goals as goal

pub read_at-requires-clause-inside : goal.read_at-requires-clause-inside
read_at-requires-clause-inside g c =
    let order = c.as_slice-number-items.ensures.value ∙ c.in_ok-order.ensures ∙ ap module_order c.modules.ensures.all in
    let i = c.loop-number.number-index in
    subst (λ numbers. get_or numbers i 0 < length c.args.env.now) (sym order)
    (number_inside c.args.env.now i (subst (λ numbers. i < length numbers) order c.loop-number-test.true))

pub read_at-requires-clause-around : goal.read_at-requires-clause-around
read_at-requires-clause-around g c =
    let backend = g.V.AttributeValidator.meaning c.args.validator.now in
    let order = c.as_slice-number-items.ensures.value ∙ c.in_ok-order.ensures ∙ ap module_order c.modules.ensures.all in
    let i = c.loop-number.number-index in
    let read = subst (λ numbers. AreRead backend c.args.env.now c.loop-number.marks.items (take i numbers)) order c.loop-number.invariant.0 in
    subst (λ numbers. HasAround backend c.args.env.now c.loop-number.marks.items (get_or numbers i 0)) (sym order)
    (around_is_read c.args.env.now backend c.loop-number.marks.items i (subst (λ numbers. i < length numbers) order c.loop-number-test.true) read)

pub loop-number-preserved : goal.loop-number-preserved
loop-number-preserved g c =
    let backend = g.V.AttributeValidator.meaning c.args.validator.now in
    let numbers = c.as_slice-number-items.result.now in
    let i = c.loop-number.number-index in (
      subst (AreRead backend c.args.env.now c.read_at.new.marks.items) (sym (take_more numbers i 0 c.loop-number-test.true))
          (c.in_ok-read_at.ensures.made (take i numbers) c.loop-number.invariant.0),
      told_more (numbered_reports backend c.args.env.now) numbers i _ _ _ c.loop-number-test.true c.loop-number.invariant.1 c.in_ok-read_at.ensures.told,
    )

pub returns-clause-made : goal.returns-clause-made
returns-clause-made g c =
    let backend = g.V.AttributeValidator.meaning c.args.validator.now in
    let order = c.as_slice-number-items.ensures.value ∙ c.in_ok-order.ensures ∙ ap module_order c.modules.ensures.all in
    let i = c.loop-number.number-index in
    let all = take_all i c.as_slice-number-items.result.now (omega (arith, c.loop-number-test.false)) ∙ order in
    c.from_vec.ensures ∙ all_read c.args.env.now backend c.loop-number.marks.items
    (subst (AreRead backend c.args.env.now c.loop-number.marks.items) all c.loop-number.invariant.0)
