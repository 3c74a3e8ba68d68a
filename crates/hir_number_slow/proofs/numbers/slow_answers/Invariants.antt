use Rattle.std.proofs.Common.{◌≡◌, map, take}
use Rattle.hir_number.specs.Numbers.{answers}
use Rattle.hir_number_slow.specs.Seen.{placed_seen}
use Rattle.hir_number_slow.proofs.numbers.slow_answers.Given as goal

abbrev pub invariant-loop-index : goal.invariant-loop-index
invariant-loop-index l = l.answers.items ≡ answers l.declared (map placed_seen (take l.index l.uses))
