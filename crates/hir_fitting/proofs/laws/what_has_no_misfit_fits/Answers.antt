use Rattle.hir_fitting.proofs.Deciding.{definition_fits, mention_fits}
use Rattle.hir_fitting.proofs.laws.what_has_no_misfit_fits.Goals as goal

pub returns-clause-mentions : goal.returns-clause-mentions
returns-clause-mentions c = λ census count holder m. mention_fits census count holder m

pub returns-clause-definitions : goal.returns-clause-definitions
returns-clause-definitions c = λ census holder parts. definition_fits census holder parts
