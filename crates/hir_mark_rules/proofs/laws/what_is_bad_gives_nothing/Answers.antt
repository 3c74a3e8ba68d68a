use Rattle.hir_mark_rules.proofs.DefaultLemmas.{defaults_exactly}
use Rattle.hir_mark_rules.proofs.IncludeLemmas.{includes_exactly}
use Rattle.hir_mark_rules.proofs.laws.what_is_bad_gives_nothing.Goals as goal

pub returns-clause-includes : goal.returns-clause-includes
returns-clause-includes c = λ value. includes_exactly value

pub returns-clause-defaults : goal.returns-clause-defaults
returns-clause-defaults c = λ literal. defaults_exactly literal
