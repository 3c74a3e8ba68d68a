use Rattle.std.proofs.Common.{◌≡◌, take}
use Rattle.std.specs.List.{flat_map}
use Rattle.bridge_links.specs.LinkLines.{with_links}
use Rattle.bridge_tool.specs.DocsPage.{links_at}
use Rattle.bridge_tool.proofs.docs.push_modules.Given as goal

abbrev pub invariant-loop-number : goal.invariant-loop-number
invariant-loop-number l = l.lines ≡ with_links l.urls l.initial.lines (flat_map (links_at l.modules) (take l.number-index l.order))
