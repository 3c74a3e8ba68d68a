use Rattle.std.proofs.Common.{◌≡◌, suc, sym, arith}
use Rattle.serde_json.specs.View.{view, items_view}
use Rattle.bridge_pointers.specs.Pointers.{in_entries, modules_within}
use Rattle.bridge_pointers.proofs.PointerLemmas.{counted_more, found_at, found_within, left_within, where_found, where_left}
use Rattle.bridge_pointers.proofs.places.+places.Goals as goal

pub module_in-returns-in-Found : goal.module_in-returns-in-Found
module_in-returns-in-Found t c =
    let here = where_found (modules_within c.args.levels (view c.index-list-place.result)) c.loop-place.left c.in_ok-pointer.field-0 c.in-Found.pointer c.in-Found.is c.in_ok-pointer.ensures in
    rw c.in_ok-within-in-Found.ensures (found_at (modules_within c.args.levels) c.args.list.now c.loop-place.place c.args.number c.loop-place.left _ c.in-Found.pointer c.loop-place-test.true c.index-list-place.is c.loop-place.invariant here)

pub module_in-loop-place-preserved : goal.module_in-loop-place-preserved
module_in-loop-place-preserved t c =
    let here = where_left (modules_within c.args.levels (view c.index-list-place.result)) c.loop-place.left c.in_ok-pointer.field-0 c.in-Left.others c.in-Left.is c.in_ok-pointer.ensures in
    counted_more (modules_within c.args.levels) c.args.list.now c.loop-place.place c.args.number c.loop-place.left c.in-Left.others _ c.loop-place-test.true c.index-list-place.is c.loop-place.invariant here

pub module_within-returns-in_ok-under_key-in-Found : goal.module_within-returns-in_ok-under_key-in-Found
module_within-returns-in_ok-under_key-in-Found t c =
    let levels : c.args.levels ≡ suc c.in-Some.inner = omega (arith, c.in-Some.ensures.0, c.in-Some.ensures.1) in
    let number : c.args.number ≡ suc c.in-Some-checked_sub.rest = omega (arith, c.in-Some-checked_sub.ensures.0, c.in-Some-checked_sub.ensures.1) in
    let here = where_found (in_entries (modules_within c.in-Some.inner) 0 (items_view c.list_in.result.now)) c.in-Some-checked_sub.rest c.in_ok-pointer.field-0 c.in-Found.pointer c.in-Found.is c.in_ok-pointer.ensures in
    rw (levels, c.in_ok-under_key-in-Found.ensures) (found_within c.in-Some.inner c.args.number c.in-Some-checked_sub.rest (view c.args.value.now) (view c.in-Some-under.modules.now) c.in-Found.pointer (sym c.in-Some-under.ensures) number (rw (← c.list_in.ensures) here))

pub module_within-returns-in-Left : goal.module_within-returns-in-Left
module_within-returns-in-Left t c =
    let levels : c.args.levels ≡ suc c.in-Some.inner = omega (arith, c.in-Some.ensures.0, c.in-Some.ensures.1) in
    let number : c.args.number ≡ suc c.in-Some-checked_sub.rest = omega (arith, c.in-Some-checked_sub.ensures.0, c.in-Some-checked_sub.ensures.1) in
    let here = where_left (in_entries (modules_within c.in-Some.inner) 0 (items_view c.list_in.result.now)) c.in-Some-checked_sub.rest c.in_ok-pointer.field-0 c.in-Left.left c.in-Left.is c.in_ok-pointer.ensures in
    rw levels (left_within c.in-Some.inner c.args.number c.in-Some-checked_sub.rest c.in-Left.left (view c.args.value.now) (view c.in-Some-under.modules.now) (sym c.in-Some-under.ensures) number (rw (← c.list_in.ensures) here))
