use Rattle.std.proofs.Common.{◌≡◌, ◌++◌}
use Rattle.bridge_generate.specs.Generated.{functions_below}
use Rattle.bridge_generate.proofs.functions.add_functions.Given as goal

abbrev pub invariant-loop-number : goal.invariant-loop-number
invariant-loop-number l = l.items ≡ l.initial.items ++ functions_below l.number
