use Rattle.std.proofs.Common.{◌≡◌, ◌++◌}
use Rattle.bridge_generate.specs.Generated.{structs_below}
use Rattle.bridge_generate.proofs.structs.add_structs.Given as goal

abbrev pub invariant-loop-number : goal.invariant-loop-number
invariant-loop-number l = l.items ≡ l.initial.items ++ structs_below l.number
