use Rattle.hir_fitting_forms.proofs.Declaring.{fields_numbered}
use Rattle.hir_fitting_forms.proofs.Staged.{function_staged, method_staged, trait_method_staged}
use Rattle.hir_fitting_forms.proofs.declarations.declarations_are_numbered_to_what_fits.Goals as goal

pub returns-clause-method : goal.returns-clause-method
returns-clause-method c = λ census catalog names owner method fit. method_staged census catalog names fit owner method

pub returns-clause-function : goal.returns-clause-function
returns-clause-function c = λ census catalog names function fit. function_staged census catalog names fit function

pub returns-clause-trait_method : goal.returns-clause-trait_method
returns-clause-trait_method c = λ census catalog names owner method fit. trait_method_staged census catalog names fit owner method

pub returns-clause-fields : goal.returns-clause-fields
returns-clause-fields c = λ census catalog names item numbers fit is. fields_numbered census catalog names fit item numbers is
