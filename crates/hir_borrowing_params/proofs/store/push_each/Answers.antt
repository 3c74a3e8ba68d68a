use Rattle.std.proofs.Common.{arith, length, sym, subst, refl, option_map, ◌≡◌}
use Rattle.std.specs.Prelude.{IfSome}
use Rattle.hir_borrowing_params.specs.Edges.{held_under}
use Rattle.hir_borrowing_params.specs.inside.Candidates.{with_edges}
use Rattle.hir_borrowing_params.specs.inside.Rooms.{HasRoom, HasRoomUnder}
use Rattle.hir_borrowing_params.proofs.Pushing.{at_zero, place_of, pushed_next}
use Rattle.hir_borrowing_params.proofs.store.push_each.Goals as goal

pub loop-key-init : goal.loop-key-init
loop-key-init c = record { done = λ i below. absurd (omega arith); rest = λ i from under. refl; others = λ t none. refl }

pub push_under-requires : goal.push_under-requires
push_under-requires c =
    let is = at_zero c.args.keys.now c.loop-key.key-index c.key-item.result c.loop-key-test.true c.key-item.is in
    subst (HasRoomUnder c.loop-key.map (length c.args.candidates.now)) (sym is)
    (subst (λ o. IfSome o (HasRoom (length c.args.candidates.now))) (sym (c.loop-key.invariant.rest c.loop-key.key-index (omega arith) c.loop-key-test.true)) (c.requires.room c.loop-key.key-index 0 c.loop-key-test.true))

pub loop-key-preserved : goal.loop-key-preserved
loop-key-preserved c =
    pushed_next _ _ _ _ _ _ _ _ c.requires.apart c.loop-key-test.true (at_zero c.args.keys.now c.loop-key.key-index c.key-item.result c.loop-key-test.true c.key-item.is) c.loop-key.invariant c.push_under.ensures.here c.push_under.ensures.others

pub returns-clause-here : goal.returns-clause-here
returns-clause-here c = λ t h. let p = place_of c.args.keys.now t h in
    subst (λ x. held_under c.loop-key.map x ≡ option_map (with_edges c.args.param_name.now c.args.candidates.now) (held_under c.args.map.now x)) p.2 (c.loop-key.invariant.done p.0 (omega (arith, p.1)))
