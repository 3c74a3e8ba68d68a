use Rattle.std.proofs.Common.{◌≡◌, ◌++◌}
use Rattle.hir_borrowing_params.proofs.keeping.listed.Given as goal

abbrev pub invariant-loop-key : goal.invariant-loop-key
invariant-loop-key l = l.list.items ++ l.key-iterator ≡ l.set.keys
