use Rattle.std.proofs.Common.{◌≡◌, drop}
use Rattle.hir_elide.specs.Generics.{all_or_fault}
use Rattle.hir_number_slow.proofs.StepLemmas.{after}
use Rattle.hir_number_slow.proofs.numbers.all_or_fault.Given as goal

abbrev pub invariant-loop-number : goal.invariant-loop-number
invariant-loop-number l = all_or_fault l.numbers ≡ after l.lifetimes (all_or_fault (drop l.number-index l.numbers))
