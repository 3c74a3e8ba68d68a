use Rattle.std.proofs.Common.{◌≡◌, ◌<◌, ℕ, ◌↔◌, ◌⊎◌}
use Rattle.bridge_ast.specs.inside.Pairs.{HasPair}
use Rattle.bridge_ast.proofs.alias_ends.add_aliases.Given as goal

abbrev pub invariant-loop-number : goal.invariant-loop-number
invariant-loop-number l =
    (first second : ℕ) → HasPair l.aliases first second ↔ (HasPair l.initial.aliases first second
    ⊎ ((first ≡ l.«module») × (second < l.number)))
