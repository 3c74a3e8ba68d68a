use Rattle.hir_fitting_forms.proofs.Methods.{function_form_fits, method_form_fits, whole_fits}
use Rattle.hir_fitting_forms.proofs.wholes.methods_stand_for_what_fits.Goals as goal

pub returns-clause-whole : goal.returns-clause-whole
returns-clause-whole c = λ census catalog. whole_fits census catalog

pub returns-clause-method : goal.returns-clause-method
returns-clause-method c = λ census backend catalog. method_form_fits census catalog backend

pub returns-clause-function : goal.returns-clause-function
returns-clause-function c = λ census backend catalog. function_form_fits census catalog backend
