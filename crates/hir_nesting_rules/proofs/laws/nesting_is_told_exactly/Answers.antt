use Rattle.hir_nesting_rules.proofs.NestingLemmas.{nesting_exactly}
use Rattle.hir_nesting_rules.proofs.laws.nesting_is_told_exactly.Goals as goal

pub returns : goal.returns
returns c = λ it d faults is_catalog named all are. nesting_exactly it d faults is_catalog named all are
