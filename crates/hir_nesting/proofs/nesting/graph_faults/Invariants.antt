use Rattle.std.proofs.Common.{◌≡◌, ◌<◌, ℕ, length, get_or, None}
use Rattle.hir_nesting.specs.Faults.{TellsNesting}
use Rattle.hir_nesting.proofs.nesting.graph_faults.Given as goal

abbrev pub invariant-loop-node : goal.invariant-loop-node
invariant-loop-node l = (length l.faults.items ≡ l.node) × ((a : ℕ) → a < l.node → TellsNesting l.graph a (get_or l.faults.items a None))
