use Rattle.std.proofs.Common.{refl, sym, ap, ◌∙◌}
use Rattle.serde_json.specs.View.{view}
use Rattle.bridge_form.specs.Form.{sole}
use Rattle.bridge_form.proofs.SoleLemmas.{at_end, first_found, next_found, of_lone, one_too_many, sole_known}
use Rattle.bridge_form.proofs.fields.sole.Goals as goal

pub loop-number-preserved-in_default : goal.loop-number-preserved-in_default
loop-number-preserved-in_default c =
    let l = c.loop-number in
    let next = next_found c.args.form.now (view c.args.value) l._number l.lone l.left c.next.new.self c.next.result c.loop-number-test.true l.invariant.0 l.invariant.1 c.next.ensures.left in
    (next.0, next.1 ∙ rw c.in_default.is refl)

pub loop-number-preserved-in_default-held : goal.loop-number-preserved-in_default-held
loop-number-preserved-in_default-held c =
    let l = c.loop-number in
    let next = next_found c.args.form.now (view c.args.value) l._number l.lone l.left c.next.new.self c.next.result c.loop-number-test.true l.invariant.0 l.invariant.1 c.next.ensures.left in
    (next.0, next.1 ∙ rw (c.in-Some.is, c.in_default-held.is) refl)

pub loop-number-preserved : goal.loop-number-preserved
loop-number-preserved c =
    let l = c.loop-number in
    let next = next_found c.args.form.now (view c.args.value) l._number l.lone l.left c.next.new.self c.next.result c.loop-number-test.true l.invariant.0 l.invariant.1 c.next.ensures.left in
    (next.0, next.1 ∙ ap sole (first_found l.lone c.next.result c.in-Some.key c.in-Some.held c.in-Some-held.found _ c.in-Some.is c.in-Some-held.is (sym c.is_some.ensures ∙ c.if-is_some.false)))

pub returns-then-is_some : goal.returns-then-is_some
returns-then-is_some c =
    let l = c.loop-number in
    let next = next_found c.args.form.now (view c.args.value) l._number l.lone l.left c.next.new.self c.next.result c.loop-number-test.true l.invariant.0 l.invariant.1 c.next.ensures.left in
    let many = one_too_many l.lone c.next.result c.in-Some.key c.in-Some.held c.in-Some-held.found _ c.in-Some.is c.in-Some-held.is (sym c.is_some.ensures ∙ c.if-is_some.true) in
    rw c.wrong_form.ensures (sole_known c.args.form.now (view c.args.value) c.in_ok-left.ensures.0 ∙ next.1 ∙ many)

pub returns-in-Some-lone : goal.returns-in-Some-lone
returns-in-Some-lone c =
    let l = c.loop-number in
    at_end c.args.form.now (view c.args.value) l._number l.lone c.loop-number-test.false c.in_ok-left.ensures.0 l.invariant.1 ∙ ap of_lone c.in-Some-lone.is

pub returns : goal.returns
returns c =
    let l = c.loop-number in
    rw c.wrong_form-in-None.ensures (at_end c.args.form.now (view c.args.value) l._number l.lone c.loop-number-test.false c.in_ok-left.ensures.0 l.invariant.1 ∙ ap of_lone c.in-None.is)
