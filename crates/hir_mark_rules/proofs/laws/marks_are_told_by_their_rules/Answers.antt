use Rattle.hir_mark_rules.proofs.MarksLemmas.{marks_exactly}
use Rattle.hir_mark_rules.proofs.laws.marks_are_told_by_their_rules.Goals as goal

pub returns : goal.returns
returns c = λ backend declared parent error. marks_exactly backend declared parent error
