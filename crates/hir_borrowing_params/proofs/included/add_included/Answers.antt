use Rattle.hir_borrowing_params.proofs.Including.{adds_included}
use Rattle.hir_borrowing_params.proofs.included.add_included.Goals as goal

pub returns : goal.returns
returns c =
    adds_included c.args.tcx.now.definitions c.args.method.now c.in_ok-set.set c.args.keys.now c.add_named.new.keys c.args.force_include_slices c.add_named.result c.num_lifetimes-count.ensures.sound c.in_ok-set.ensures c.if-not-force_include_slices.false
    c.add_named.ensures
