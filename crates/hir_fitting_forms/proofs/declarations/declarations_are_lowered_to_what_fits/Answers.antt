use Rattle.hir_fitting.specs.Parts.{PartFits, method_part}
use Rattle.hir_form.specs.ParamForms.{field_form, out_type_form}
use Rattle.hir_mentions.specs.Callbacks.{field_mentions, output_mentions}
use Rattle.hir_methods.specs.Methods.{method_form}
use Rattle.hir_fitting_forms.proofs.Fields.{fields_form_fits}
use Rattle.hir_fitting_forms.proofs.Lists.{given_all}
use Rattle.hir_fitting_forms.proofs.Methods.{function_form_fits, method_form_fits}
use Rattle.hir_fitting_forms.proofs.Positions.{field_made, output_made}
use Rattle.hir_fitting_forms.proofs.Staged.{function_staged, method_staged, trait_method_staged}
use Rattle.hir_fitting_forms.proofs.TraitParts.{trait_form_good}
use Rattle.hir_fitting_forms.proofs.declarations.declarations_are_lowered_to_what_fits.Goals as goal

pub returns-clause-method : goal.returns-clause-method
returns-clause-method c = λ census backend catalog names owner parent method fit.
    method_form_fits census catalog backend names owner parent method (method_staged census catalog names fit owner method)

pub returns-clause-methods : goal.returns-clause-methods
returns-clause-methods c = λ census backend catalog names owner parent methods fit.
    given_all (λ m. PartFits census (method_part m)) (method_form backend catalog names owner parent)
    (λ method. method_form_fits census catalog backend names owner parent method (method_staged census catalog names fit owner method)) methods

pub returns-clause-function : goal.returns-clause-function
returns-clause-function c = λ census backend catalog names parent function fit.
    function_form_fits census catalog backend names parent function (function_staged census catalog names fit function)

pub returns-clause-traits : goal.returns-clause-traits
returns-clause-traits c = λ census backend catalog names owner start item fit.
    trait_form_good census catalog backend names owner (λ method. trait_method_staged census catalog names fit owner method) start item

pub returns-clause-fields : goal.returns-clause-fields
returns-clause-fields c = λ census backend catalog names item fit.
    fields_form_fits census catalog names fit (field_form catalog) field_mentions (λ count. field_made census count catalog) backend item

pub returns-clause-out_fields : goal.returns-clause-out_fields
returns-clause-out_fields c = λ census backend catalog names item fit.
    fields_form_fits census catalog names fit (out_type_form catalog) output_mentions (λ count. output_made census count catalog) backend item
