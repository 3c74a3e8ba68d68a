use Rattle.hir_mark_rules.proofs.ContextLemmas.{context_exactly}
use Rattle.hir_mark_rules.proofs.laws.contexts_are_told_by_their_rules.Goals as goal

pub returns : goal.returns
returns c = λ backend context attrs error. context_exactly backend context attrs error
