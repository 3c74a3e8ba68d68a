use Rattle.hir_form.specs.ParamForms.{callback_return_form, field_form, method_return_form, out_type_form, param_form}
use Rattle.hir_mentions.specs.Callbacks.{callback_return_mentions, field_mentions, input_mentions, output_mentions}
use Rattle.hir_mentions.specs.Types.{return_mentions}
use Rattle.hir_fitting_forms.proofs.Positions.{callback_return_made, field_made, method_return_made, output_made, param_made}
use Rattle.hir_fitting_forms.proofs.Settled.{type_settled}
use Rattle.hir_fitting_forms.proofs.forms.types_stand_for_what_fits.Goals as goal

pub returns-clause-field : goal.returns-clause-field
returns-clause-field c = λ census catalog count. type_settled census count catalog (field_form catalog) field_mentions (field_made census count catalog)

pub returns-clause-out : goal.returns-clause-out
returns-clause-out c = λ census catalog count. type_settled census count catalog (out_type_form catalog) output_mentions (output_made census count catalog)

pub returns-clause-param : goal.returns-clause-param
returns-clause-param c = λ census catalog count. type_settled census count catalog (param_form catalog) input_mentions (param_made census count catalog)

pub returns-clause-returned : goal.returns-clause-returned
returns-clause-returned c = λ census catalog count written.
    type_settled census count catalog (method_return_form catalog written) (return_mentions output_mentions) (method_return_made census count catalog written)

pub returns-clause-callback : goal.returns-clause-callback
returns-clause-callback c = λ census catalog count.
    type_settled census count catalog (callback_return_form catalog) (return_mentions callback_return_mentions) (callback_return_made census count catalog)
