use Rattle.std.proofs.Common.{◌-◌, [], slice_index_or, arith, ap, subst}
use Rattle.std.proofs.lemmas.List.{length-map, take_all}
use Rattle.std.specs.List.{FoldsTo, enumerate_from}
use Rattle.hir_borrowing_fields.specs.Calls.{CalledAtName}
use Rattle.hir_borrowing_fields.specs.inside.Places.{own_step, step_names, steps_at}
use Rattle.hir_borrowing_fields.proofs.PlaceLemmas.{called_more}
use Rattle.hir_borrowing_fields.proofs.places.Places.backtrace.Goals as goal

pub loop-number-preserved : goal.loop-number-preserved
loop-number-preserved g c = record {
  callable = c.call.ensures.callable;
  called =
      let within = c.loop-number-test.true in
      let long = c.depth-depth.ensures in
      called_more (λ p x q. CalledAtName g.F.FnMut p x tt q) (slice_index_or c.args.self.now c.args.place []) c.loop-number.number (c.depth-depth.result - 1 - c.loop-number.number)
      (slice_index_or c.args.self.now c.above-at.result []) (steps_at c.args.self.now c.place.result.parent) (own_step c.place.result) c.args.visit.now c.loop-number.visit c.call.new.visit
      (omega (arith, within, long)) (ap (λ n. n - 1 - c.loop-number.number) long) c.above-at.ensures.steps c.place.ensures.steps c.loop-number.invariant.called c.call.ensures.called;
}

pub returns-clause-called : goal.returns-clause-called
returns-clause-called g c =
    let over = c.loop-number-test.false in
    let long = c.depth-depth.ensures in
    let named = length-map (slice_index_or c.args.self.now c.args.place []) (λ step. step.name) in
    subst (λ xs. FoldsTo (λ p x q. CalledAtName g.F.FnMut p x tt q) c.args.visit.now (enumerate_from 0 xs) c.loop-number.visit)
    (take_all c.loop-number.number (step_names (slice_index_or c.args.self.now c.args.place [])) (omega (arith, over, long, named)))
    c.loop-number.invariant.called
