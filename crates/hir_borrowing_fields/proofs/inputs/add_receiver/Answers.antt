use Rattle.std.proofs.Common.{[], map, subst, sym}
use Rattle.std.specs.Result.{OnOk}
use Rattle.hir_skeleton.specs.Lowered.{receiver_skeleton}
use Rattle.hir_borrowing_fields.specs.inside.Walks.{GoesOn, behind, leaves_from, named_receiver, walked_type}
use Rattle.hir_borrowing_fields.proofs.WalkLemmas.{behind_one}
use Rattle.hir_borrowing_fields.proofs.inputs.add_receiver.Goals as goal

pub returns-in-Some : goal.returns-in-Some
returns-in-Some c =
    let f = walked_type c.args.tcx.now.definitions 256 c.args.args.now in
    subst (λ receiver. OnOk c.add_self.result (GoesOn c.args.tcx.now.definitions c.args.walk.now c.add_self.new.walk (map (behind []) (leaves_from 0 f (named_receiver c.args.self_name.now receiver))))) (sym c.in-Some.is)
    (subst (λ leaves. OnOk c.add_self.result (GoesOn c.args.tcx.now.definitions c.args.walk.now c.add_self.new.walk leaves)) (behind_one (record { number = 0; name = c.args.self_name.now }) (f (receiver_skeleton c.in-Some.receiver.ty)))
    c.add_self.ensures)
