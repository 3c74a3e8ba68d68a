use Rattle.std.proofs.Common.{◌≡◌, take}
use Rattle.std.specs.List.{flat_map}
use Rattle.bridge_links.specs.LinkLines.{method_links, with_links}
use Rattle.bridge_links.proofs.lines.LinkLines.push_methods.Given as goal

abbrev pub invariant-loop-method : goal.invariant-loop-method
invariant-loop-method l = l.self ≡ with_links l.urls l.initial.self (flat_map (method_links l.path l.item) (take l.method-index l.methods))
