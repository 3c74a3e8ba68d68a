use Rattle.std.proofs.Common.{◌≡◌, take, []}
use Rattle.bridge_ast.specs.Each.{each}
use Rattle.bridge_ast.specs.EnvFaults.{module_faults}
use Rattle.bridge_ast.specs.inside.Scopes.{Knows}
use Rattle.bridge_ast.proofs.scopes.scopes_of.Given as goal

abbrev pub invariant-loop-number : goal.invariant-loop-number
invariant-loop-number l = record {
  known : Knows l.scopes.items (take l.number l.modules);
  none : each module_faults (take l.number l.modules) ≡ [];
}
