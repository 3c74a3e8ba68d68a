use Rattle.std.proofs.Common.{◌≡◌, take, map, []}
use Rattle.bridge_ast.specs.Each.{each}
use Rattle.bridge_ast.specs.EnvFaults.{method_faults}
use Rattle.bridge_ast.proofs.items.test_trait_methods.Given as goal

abbrev pub invariant-loop-number : goal.invariant-loop-number
invariant-loop-number l =
    each (method_faults l.«module» l.item) (take l.number (map (λ method. method.lifetimes.nodes) l.methods)) ≡ []
