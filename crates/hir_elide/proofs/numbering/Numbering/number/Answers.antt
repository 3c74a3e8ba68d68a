use Rattle.std.proofs.Common.{refl}
use Rattle.hir_elide.proofs.NumberingLemmas.{numbers_same, on_ok}
use Rattle.hir_elide.proofs.numbering.Numbering.number.Goals as goal

pub returns-in-Static-clause-kept : goal.returns-in-Static-clause-kept
returns-in-Static-clause-kept c = λ s role numbers. rw c.in-Static.is (numbers_same c.args.self.now s role _ numbers refl)

pub returns-in-Named-clause-kept : goal.returns-in-Named-clause-kept
returns-in-Named-clause-kept c = λ s role numbers. on_ok c.named.result _ (rw c.in-Named.is (numbers_same c.args.self.now s role _ numbers refl))
