use Rattle.std.proofs.Common.{◌≡◌, map, take}
use Rattle.std.specs.Prelude.{All}
use Rattle.bridge_text.specs.Ident.{IsIdent}
use Rattle.hir_life.specs.Declarations.{bounded}
use Rattle.hir_life.proofs.declared.bounded_lifetimes.Given as goal

abbrev pub invariant-loop-node : goal.invariant-loop-node
invariant-loop-node l = (l.made ≡ map bounded (take l.node-index l.nodes)) × All (λ node. IsIdent node.name) (take l.node-index l.nodes)
