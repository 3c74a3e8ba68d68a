use Rattle.std.proofs.Common.{◌≡◌, ◌||◌, ℕ, take}
use Rattle.std.specs.List.{list_any}
use Rattle.hir_borrowing_params.specs.Edges.{is_in}
use Rattle.hir_borrowing_params.specs.Slices.{param_slices}
use Rattle.hir_borrowing_params.specs.inside.Searching.{AreKnown, is_number, slice_passes}
use Rattle.hir_borrowing_params.proofs.included.add_params.Given as goal

abbrev pub invariant-loop-param : goal.invariant-loop-param
invariant-loop-param l = record {
  known : AreKnown l.tcx.definitions l.known;
  found : (d : ℕ) → is_in l.set d ≡ (is_in l.initial.set d || list_any (λ param. slice_passes l.tcx.definitions (is_number d) (param_slices param.ty)) (take l.param-index l.params));
}
