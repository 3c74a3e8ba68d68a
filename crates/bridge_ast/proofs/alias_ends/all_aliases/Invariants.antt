use Rattle.std.proofs.Common.{ℕ, ◌↔◌, take}
use Rattle.bridge_ast.specs.inside.AliasEnds.{IsAlias}
use Rattle.bridge_ast.specs.inside.Pairs.{HasPair}
use Rattle.bridge_ast.proofs.alias_ends.all_aliases.Given as goal

abbrev pub invariant-loop-number : goal.invariant-loop-number
invariant-loop-number l = (first second : ℕ) → HasPair l.aliases first second ↔ IsAlias (take l.number l.modules) (first, second)
