use Rattle.std.proofs.Common.{◌≡◌, take}
use Rattle.std.specs.List.{flat_map}
use Rattle.hir_heads.specs.Names.{name_errors}
use Rattle.hir_reports.specs.Store.{Held, Keeps, added}
use Rattle.hir_heads.proofs.lifetimes.tell_lifetimes.Given as goal

abbrev pub invariant-loop-node : goal.invariant-loop-node
invariant-loop-node l =
    (l.errors ≡ added l.initial.errors (flat_map (λ node. name_errors node.name) (take l.node-index l.node-items)))
    × ((earlier : Held) → Keeps earlier l.initial.errors → Keeps earlier l.errors)
