use Rattle.std.proofs.Common.{◌≡◌, List, take, Some}
use Rattle.std.specs.Prelude.{slice_get}
use Rattle.bridge_decl.specs.declared.modules.Module.{Module}
use Rattle.bridge_ast.specs.inside.Scopes.{Knows}
use Rattle.bridge_ast.proofs.scopes.find_module.Given as goal

abbrev pub invariant-loop-segment : goal.invariant-loop-segment
invariant-loop-segment l =
    (modules : List Module) → Knows l.scopes modules → (m : Module) × (slice_get modules l.number ≡ Some m)
    × (m.path ≡ take l.segment-index l.path)
