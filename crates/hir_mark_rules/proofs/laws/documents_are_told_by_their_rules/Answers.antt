use Rattle.hir_mark_rules.proofs.DocsLemmas.{docs_exactly}
use Rattle.hir_mark_rules.proofs.laws.documents_are_told_by_their_rules.Goals as goal

pub returns : goal.returns
returns c = λ backend docs error. docs_exactly backend docs error
