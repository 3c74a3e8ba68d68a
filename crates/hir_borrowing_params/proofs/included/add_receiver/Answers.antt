use Rattle.std.proofs.Common.{[], ◌∷◌, ap}
use Rattle.hir_mentions.specs.Mentions.{where_any}
use Rattle.hir_borrowing_params.specs.Slices.{receiver_slices}
use Rattle.hir_borrowing_params.specs.inside.Searching.{is_number, slice_passes}
use Rattle.hir_borrowing_params.proofs.Including.{alone_added}
use Rattle.hir_borrowing_params.proofs.included.add_receiver.Goals as goal

pub returns-in-Some-clause-found : goal.returns-in-Some-clause-found
returns-in-Some-clause-found c =
    alone_added (λ d. slice_passes c.args.tcx.now.definitions (is_number d)) (receiver_slices c.in-Some.receiver.ty) _ c.args.set.now c.add_self.new.set c.add_self.result (ap (where_any (λ r. receiver_slices r.ty ∷ [])) c.in-Some.is) c.add_self.ensures.found
