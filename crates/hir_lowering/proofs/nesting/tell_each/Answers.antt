use Rattle.std.proofs.Common.{◌≡◌, ◌++◌, ◌<◌, ◌≤◌, ◌+◌, ℕ, ap, arith, get_or, length, subst, sym, ◌∙◌}
use Rattle.std.proofs.lemmas.List.{get_or_default, take_all}
use Rattle.std.proofs.lemmas.List.FromFn.{get_or-enumerate_from, length-enumerate_from}
use Rattle.std.specs.List.{enumerate_from, flat_map}
use Rattle.bridge_ast.specs.declared.place.ItemPlace.{ItemPlace}
use Rattle.hir_lowering.specs.Nesting.{nesting_reports_at}
use Rattle.hir_lowering.proofs.WalkLemmas.{holds_both, told_next}
use Rattle.hir_lowering.proofs.nesting.tell_each.Goals as goal

pub loop-number-preserved : goal.loop-number-preserved
loop-number-preserved c =
    let places = c.args.places.now in
    let i = c.loop-number.number in
    let none : ItemPlace = record { «module» = 0; item = 0 } in
    let place : ItemPlace = get_or places i none in
    let at : ℕ × ItemPlace = (i, place) in
    let within : i < length (enumerate_from 0 places) = subst (λ n. i < n) (sym (length-enumerate_from 0 places)) c.loop-number-test.true in
    let from_zero : 0 + i ≡ i = omega arith in
    let is_at =
    get_or-enumerate_from 0 places i at c.loop-number-test.true
    ∙ ap (λ n. (n, get_or places i place)) from_zero
    ∙ ap (λ p. (i, p)) (get_or_default places i place none c.loop-number-test.true) in (
      told_next (nesting_reports_at c.args.env.now c.args.faults.now) (enumerate_from 0 places) i at _ _ _ within (sym is_at) c.loop-number.invariant.0
          c.in_ok-tell_at.ensures.told,
      holds_both c.args.errors.now c.loop-number.errors c.tell_at.new.errors c.loop-number.invariant.1 c.in_ok-tell_at.ensures.kept,
    )

pub returns-clause-told : goal.returns-clause-told
returns-clause-told c =
    let places = c.args.places.now in
    let i = c.loop-number.number in
    let all : length (enumerate_from 0 places) ≤ i = subst (λ n. n ≤ i) (sym (length-enumerate_from 0 places)) c.loop-number-test.false in
    c.loop-number.invariant.0
    ∙ ap (λ at. c.args.errors.now.reports ++ flat_map (nesting_reports_at c.args.env.now c.args.faults.now) at) (take_all i (enumerate_from 0 places) all)
