use Rattle.std.proofs.Common.{◌≡◌, take}
use Rattle.std.specs.List.{flat_map}
use Rattle.bridge_links.specs.LinkLines.{item_links, with_links}
use Rattle.bridge_links.proofs.lines.LinkLines.push_module.Given as goal

abbrev pub invariant-loop-item : goal.invariant-loop-item
invariant-loop-item l = l.self ≡ with_links l.urls l.initial.self (flat_map (item_links l.«module».path) (take l.item-index l.item-items))
