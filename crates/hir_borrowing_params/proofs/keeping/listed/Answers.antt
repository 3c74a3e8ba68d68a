use Rattle.hir_borrowing_params.proofs.Rising.{apart_from_sorted}
use Rattle.hir_borrowing_params.proofs.keeping.listed.Goals as goal

pub returns-in_err-push-clause-apart : goal.returns-in_err-push-clause-apart
returns-in_err-push-clause-apart c = apart_from_sorted c.args.set.now.keys c.len-count.ensures.ordered

pub returns-clause-apart : goal.returns-clause-apart
returns-clause-apart c = apart_from_sorted c.args.set.now.keys c.len-count.ensures.ordered
