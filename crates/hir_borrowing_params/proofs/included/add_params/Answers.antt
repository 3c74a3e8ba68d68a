use Rattle.std.proofs.Common.{ap}
use Rattle.hir_borrowing_params.specs.Slices.{param_slices}
use Rattle.hir_borrowing_params.specs.inside.Searching.{is_number, slice_passes}
use Rattle.hir_borrowing_params.proofs.Including.{each_added}
use Rattle.hir_borrowing_params.proofs.SliceNesting.{context_nests}
use Rattle.hir_borrowing_params.proofs.included.add_params.Goals as goal

pub add_slices-requires-clause-nests : goal.add_slices-requires-clause-nests
add_slices-requires-clause-nests c = context_nests c.args.tcx.now _

pub loop-param-preserved : goal.loop-param-preserved
loop-param-preserved c = record {
  known = c.in_ok-add_slices.ensures.known;
  found = λ d.
      each_added (λ param. slice_passes c.args.tcx.now.definitions (is_number d) (param_slices param.ty)) c.args.params.now c.loop-param.param-index c.param-item.result _ _ _ _ c.loop-param-test.true c.param-item.is
      (c.loop-param.invariant.found d) (c.in_ok-add_slices.ensures.found d) (ap (slice_passes c.args.tcx.now.definitions (is_number d)) c.slice_part.ensures);
}
