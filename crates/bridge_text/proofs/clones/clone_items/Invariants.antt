use Rattle.std.proofs.Common.{◌≡◌, take}
use Rattle.bridge_text.proofs.clones.clone_items.Given as goal

abbrev pub invariant-loop-item : goal.invariant-loop-item
invariant-loop-item g l = l.copies ≡ take l.item-index l.item-items
