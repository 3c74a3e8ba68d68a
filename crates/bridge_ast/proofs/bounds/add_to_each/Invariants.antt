use Rattle.std.proofs.Common.{take}
use Rattle.bridge_ast.specs.inside.BoundLists.{AddsToEach}
use Rattle.bridge_ast.proofs.bounds.add_to_each.Given as goal

abbrev pub invariant-loop-place : goal.invariant-loop-place
invariant-loop-place l = AddsToEach l.initial.lists l.lists (take l.place-index l.places) l.number
