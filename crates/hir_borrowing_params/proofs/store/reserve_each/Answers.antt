use Rattle.std.proofs.Common.{◌∙◌, subst, take}
use Rattle.std.proofs.lemmas.List.Elements.{All-more, All-weaker}
use Rattle.hir_borrowing_params.specs.inside.Rooms.{HasRoomUnder}
use Rattle.hir_borrowing_params.proofs.store.reserve_each.Goals as goal

pub loop-key-preserved : goal.loop-key-preserved
loop-key-preserved c = record {
  same = λ t. c.in_ok-reserve_under.ensures.same t ∙ c.loop-key.invariant.same t;
  room = All-more (HasRoomUnder c.reserve_under.new.map c.args.more) c.args.keys.now c.loop-key.key-index c.key-item.result c.loop-key-test.true
      (All-weaker (HasRoomUnder c.loop-key.map c.args.more) (HasRoomUnder c.reserve_under.new.map c.args.more) c.in_ok-reserve_under.ensures.kept (take c.loop-key.key-index c.args.keys.now) c.loop-key.invariant.room)
      (subst (HasRoomUnder c.reserve_under.new.map c.args.more) c.key-item.is c.in_ok-reserve_under.ensures.room);
}
