use Rattle.hir_rules.proofs.WalkLemmas.{lowering_told}
use Rattle.hir_rules.proofs.laws.what_is_told_is_broken.Goals as goal

pub returns-clause-each : goal.returns-clause-each
returns-clause-each c = λ it r is h. (lowering_told it is).each r h

pub returns-clause-every : goal.returns-clause-every
returns-clause-every c = λ it r is h. (lowering_told it is).every r h
