use Rattle.bridge_validation.proofs.ContextLemmas.{context_exactly}
use Rattle.bridge_validation.proofs.laws.lowered_contexts_are_told_by_their_rules.Goals as goal

pub returns : goal.returns
returns c = λ must_fail defs report. context_exactly must_fail defs report
