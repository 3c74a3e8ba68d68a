use Rattle.std.proofs.Common.{◌≡◌, ◌+◌, ◌*◌, length, take}
use Rattle.serde_json.specs.View.{items_view}
use Rattle.bridge_pointers.specs.Pointers.{in_entries, modules_within}
use Rattle.bridge_pointers.proofs.places.+places.Given as goal

abbrev pub decreases-module_within : goal.decreases-module_within
decreases-module_within l = 2 * l.levels

abbrev pub decreases-module_in : goal.decreases-module_in
decreases-module_in l = 2 * l.levels + 1

abbrev pub invariant-module_in-loop-place : goal.invariant-module_in-loop-place
invariant-module_in-loop-place l =
    l.number ≡ length (in_entries (modules_within l.levels) 0 (items_view (take l.place l.list))) + l.left
