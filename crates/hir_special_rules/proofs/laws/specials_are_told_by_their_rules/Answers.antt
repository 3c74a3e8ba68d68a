use Rattle.hir_special_rules.proofs.SpecialLemmas.{special_exactly}
use Rattle.hir_special_rules.proofs.laws.specials_are_told_by_their_rules.Goals as goal

pub returns : goal.returns
returns c = λ supports owner method error. special_exactly supports owner method error
