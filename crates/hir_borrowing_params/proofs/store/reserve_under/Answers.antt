use Rattle.std.proofs.Common.{ap, sym, ◌∙◌}
use Rattle.std.specs.Option.{option_copied_mut}
use Rattle.hir_borrowing_params.specs.Edges.{held_for}
use Rattle.hir_borrowing_params.specs.inside.Rooms.{HasRoom}
use Rattle.hir_borrowing_params.specs.declared.edges.BorrowedLifetimeInfo.{BorrowedLifetimeInfo}
use Rattle.hir_borrowing_params.proofs.Writing.{holds_still, same_everywhere}
use Rattle.hir_borrowing_params.proofs.Rooms.{held_items, room_stays}
use Rattle.hir_borrowing_params.proofs.store.reserve_under.Goals as goal

pub returns-in-Some-clause-same : goal.returns-in-Some-clause-same
returns-in-Some-clause-same c =
    let w : BorrowedLifetimeInfo = record { incoming_edges = c.reserve.new.self; all_longer_lifetimes = c.in-Some.info.now.all_longer_lifetimes } in
    same_everywhere c.args.map.now (c.get_mut.follows.lender w) c.args.key c.in-Some.info.now w (sym c.get_mut.ensures.value ∙ ap option_copied_mut c.in-Some.is) (c.get_mut.follows.holds w) held_for (held_items c.in-Some.info.now c.reserve.new.self c.reserve.ensures.items)

pub returns-in-Some-clause-kept : goal.returns-in-Some-clause-kept
returns-in-Some-clause-kept c =
    let w : BorrowedLifetimeInfo = record { incoming_edges = c.reserve.new.self; all_longer_lifetimes = c.in-Some.info.now.all_longer_lifetimes } in
    holds_still c.args.map.now (c.get_mut.follows.lender w) c.args.key c.in-Some.info.now w (sym c.get_mut.ensures.value ∙ ap option_copied_mut c.in-Some.is) (c.get_mut.follows.holds w) (HasRoom c.args.more) (λ h. room_stays c.in-Some.info.now c.reserve.new.self c.args.more c.reserve.ensures.items c.reserve.ensures.capacity h)
