use Rattle.hir_borrow.proofs.MethodFitting.{functions_fit, methods_fit}
use Rattle.hir_borrow.proofs.laws.methods_of_contexts_fit.Goals as goal

pub returns-clause-functions : goal.returns-clause-functions
returns-clause-functions c = functions_fit

pub returns-clause-methods : goal.returns-clause-methods
returns-clause-methods c = methods_fit
