use Rattle.hir_borrowing_params.proofs.Including.{kept, kept_below}
use Rattle.hir_borrowing_params.proofs.Returned.{returned_below}
use Rattle.hir_borrowing_params.proofs.included.kept_lifetimes.Goals as goal

pub returns-clause-below : goal.returns-clause-below
returns-clause-below c =
    kept_below c.args.tcx.now.definitions c.args.method.now c.in_ok-set.set c.add_included.new.keys c.args.force_include_slices c.num_lifetimes-count.ensures.sound
    (returned_below c.args.tcx.now.definitions c.args.method.now c.requires c.in_ok-set.set.keys c.in_ok-set.ensures) c.in_ok-add_included.ensures

pub returns-clause-kept : goal.returns-clause-kept
returns-clause-kept c = kept c.args.tcx.now.definitions c.args.method.now c.in_ok-set.set c.add_included.new.keys c.args.force_include_slices c.in_ok-set.ensures c.in_ok-add_included.ensures
