use Rattle.std.proofs.Common.{map, take}
use Rattle.bridge_text.specs.NameIndex.{Indexes}
use Rattle.bridge_decl.proofs.index.index_lifetimes.Given as goal

abbrev pub invariant-loop-number : goal.invariant-loop-number
invariant-loop-number l = Indexes l.index (map (λ node. node.name) (take l.number l.node-items))
