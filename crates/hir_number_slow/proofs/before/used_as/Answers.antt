use Rattle.std.proofs.Common.{ap, sym, ◌∙◌}
use Rattle.hir_number_slow.specs.inside.Parts.{role_test}
use Rattle.hir_number_slow.proofs.NumberLemmas.{passed_on, wanted_on}
use Rattle.hir_number_slow.proofs.before.used_as.Goals as goal
use Rattle.hir_number_slow.proofs.before.used_as.Goals.{then-is_as+in_ok-push, else-is_as}

pub loop-index-preserved : goal.loop-index-preserved
loop-index-preserved c =
    elim c.if-is_as.branch [
      | then-is_as+in_ok-push w ↦
          wanted_on (role_test c.args.wanted) c.args.declared.now c.args.occurrences.now c.loop-index.index c.index-occurrences-index.result c.loop-index-test.true
          c.index-occurrences-index.is c.loop-index.numbers.items c.loop-index.invariant c.if-is_as.numbers.items w.number_after.result
          (sym w.if-is_as.true ∙ c.is_as.ensures) w.number_after.ensures (ap (λ v. v.items) w.numbers-is ∙ w.in_ok-push.ensures.items)
      | else-is_as w ↦
          passed_on (role_test c.args.wanted) c.args.declared.now c.args.occurrences.now c.loop-index.index c.index-occurrences-index.result c.loop-index-test.true
          c.index-occurrences-index.is c.loop-index.numbers.items c.loop-index.invariant c.if-is_as.numbers.items
          (sym w.if-is_as.false ∙ c.is_as.ensures) (ap (λ v. v.items) w.numbers-is)
    ]
