use Rattle.std.proofs.Common.{◌-◌, [], Ok, Err, slice_index_or, arith, ap, inl, inr, refl, sym, subst}
use Rattle.hir_borrowing_fields.specs.Calls.{CalledAtName, TriesEach}
use Rattle.hir_borrowing_fields.specs.inside.Places.{own_step, steps_at}
use Rattle.hir_borrowing_fields.proofs.PlaceLemmas.{comes_next, none_left}
use Rattle.hir_borrowing_fields.proofs.places.Places.try_backtrace.Goals as goal

pub loop-number-preserved : goal.loop-number-preserved
loop-number-preserved g c = record {
  callable = c.in-Ok.ensures.callable;
  called = λ r last rest.
      let within = c.loop-number-test.true in
      let long = c.depth-depth.ensures in
      let steps = slice_index_or c.args.self.now c.args.place [] in
      c.loop-number.invariant.called r last
      (subst (λ xs. TriesEach (CalledAtName g.F.FnMut) c.loop-number.visit xs r last)
      (sym (comes_next steps c.loop-number.number (c.depth-depth.result - 1 - c.loop-number.number) (slice_index_or c.args.self.now c.above-at.result []) (steps_at c.args.self.now c.place.result.parent) (own_step c.place.result)
      (omega (arith, within, long)) (ap (λ n. n - 1 - c.loop-number.number) long) c.above-at.ensures.steps c.place.ensures.steps))
      (inr (c.try_call.new.visit, c.in-Ok.ensures.called, rest)));
}

pub returns-in-Err-clause-called : goal.returns-in-Err-clause-called
returns-in-Err-clause-called g c =
    let within = c.loop-number-test.true in
    let long = c.depth-depth.ensures in
    let steps = slice_index_or c.args.self.now c.args.place [] in
    c.loop-number.invariant.called (Err c.in-Err.error) c.try_call.new.visit
    (subst (λ xs. TriesEach (CalledAtName g.F.FnMut) c.loop-number.visit xs (Err c.in-Err.error) c.try_call.new.visit)
    (sym (comes_next steps c.loop-number.number (c.depth-depth.result - 1 - c.loop-number.number) (slice_index_or c.args.self.now c.above-at.result []) (steps_at c.args.self.now c.place.result.parent) (own_step c.place.result)
    (omega (arith, within, long)) (ap (λ n. n - 1 - c.loop-number.number) long) c.above-at.ensures.steps c.place.ensures.steps))
    (inl (c.in-Err.error, refl, c.in-Err.ensures.called)))

pub returns-clause-called : goal.returns-clause-called
returns-clause-called g c =
    let over = c.loop-number-test.false in
    let long = c.depth-depth.ensures in
    let steps = slice_index_or c.args.self.now c.args.place [] in
    c.loop-number.invariant.called (Ok tt) c.loop-number.visit
    (subst (λ xs. TriesEach (CalledAtName g.F.FnMut) c.loop-number.visit xs (Ok tt) c.loop-number.visit) (sym (none_left steps c.loop-number.number (omega (arith, over, long)))) (refl, refl))
