use Rattle.std.proofs.Common.{◌≡◌}
use Rattle.std.specs.Vec.Iter.{into_iter_items}
use Rattle.hir_number.specs.Numbers.{all_answers}
use Rattle.hir_number_slow.proofs.StepLemmas.{after}
use Rattle.hir_number_slow.proofs.numbers.all_answers.Given as goal

abbrev pub invariant-loop-answer : goal.invariant-loop-answer
invariant-loop-answer l =
    after l.numbers (all_answers (into_iter_items l.answer-iterator)) ≡ all_answers (into_iter_items l.initial.answer-iterator)
