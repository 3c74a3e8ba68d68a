use Rattle.std.proofs.Common.{◌≡◌, map, take}
use Rattle.bridge_links.specs.LinkLines.{link_at, with_links}
use Rattle.bridge_links.proofs.lines.LinkLines.push_docs.Given as goal

abbrev pub invariant-loop-link : goal.invariant-loop-link
invariant-loop-link l = l.self ≡ with_links l.urls l.initial.self (map (link_at l.place) (take l.link-index l.link-items))
