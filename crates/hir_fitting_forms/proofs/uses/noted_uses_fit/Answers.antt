use Rattle.hir_fitting_forms.specs.Uses.{UseFits}
use Rattle.hir_fitting_forms.proofs.Lists.{each_from_all}
use Rattle.hir_fitting_forms.proofs.Noting.{noted_fit, unused_fit}
use Rattle.hir_fitting_forms.proofs.uses.noted_uses_fit.Goals as goal

pub returns-clause-none : goal.returns-clause-none
returns-clause-none c = λ census. unused_fit census

pub returns-clause-noted : goal.returns-clause-noted
returns-clause-noted c = λ census us t all fit. noted_fit census us t (each_from_all (UseFits census) us all) fit
