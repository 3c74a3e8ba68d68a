use Rattle.std.proofs.Common.{◌≡◌, take}
use Rattle.hir_life.proofs.declared.numbered_list.Given as goal

abbrev pub invariant-loop-number : goal.invariant-loop-number
invariant-loop-number l = l.list ≡ take l.number-index l.numbers
