use Rattle.std.proofs.Common.{[], ◌∷◌, ap}
use Rattle.hir_number.specs.Numbers.{use_answer}
use Rattle.hir_number.specs.Occurrences.{signature_with}
use Rattle.hir_number.specs.Signatures.{phase_of}
use Rattle.hir_number_slow.specs.Seen.{placed_seen}
use Rattle.hir_number_slow.proofs.StepLemmas.{each_on}
use Rattle.hir_number_slow.proofs.numbers.slow_answers.Goals as goal

pub loop-index-preserved : goal.loop-index-preserved
loop-index-preserved c =
    each_on placed_seen (λ before p. use_answer (phase_of p.0) (signature_with c.args.declared.now before) p.1 ∷ []) c.args.uses.now c.loop-index.index
    c.index-uses-index.result c.loop-index-test.true c.index-uses-index.is c.push.new.self.items c.loop-index.answers.items (c.in_ok-answer_after.field-0 ∷ [])
    c.in_ok-push.ensures.items (ap (λ answer. answer ∷ []) c.in_ok-answer_after.ensures) c.loop-index.invariant
