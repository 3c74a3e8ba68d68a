use Rattle.std.proofs.Common.{[], ◌∷◌}
use Rattle.hir_mentions.specs.Mentions.{where_any}
use Rattle.hir_borrowing_params.specs.Slices.{param_slices, receiver_slices}
use Rattle.hir_borrowing_params.proofs.Including.{both_inputs}
use Rattle.hir_borrowing_params.proofs.included.lifetimes_of_slices.Goals as goal

pub returns : goal.returns
returns c = λ d.
    both_inputs c.args.tcx.now.definitions c.args.method.now (λ param. param_slices param.ty) (where_any (λ r. receiver_slices r.ty ∷ []) c.args.method.now.param_self) c.args.method.now.params c.as_slice.result.now c.new-set.result
    c.add_receiver.new.set c.add_params.new.set d c.new-set.ensures.empty c.as_slice.ensures (c.in_ok-add_receiver.ensures.found d) (c.in_ok-add_params.ensures.found d)
