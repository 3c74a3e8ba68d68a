use Rattle.std.proofs.Common.{take}
use Rattle.std.specs.Prelude.{All}
use Rattle.bridge_text.specs.Ident.{IsIdent}
use Rattle.hir_fields.proofs.idents.all_named.Given as goal

abbrev pub invariant-loop-node : goal.invariant-loop-node
invariant-loop-node l = All (λ node. IsIdent node.name) (take l.node-index l.node-items)
