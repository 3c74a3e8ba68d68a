use Rattle.std.proofs.Common.{◌≡◌, ◌++◌, drop, map}
use Rattle.std.specs.Prelude.{option_map}
use Rattle.hir_form.specs.ParamForms.{all_given, callback_param_form, callback_params_form}
use Rattle.hir_form.proofs.params.lower_callback_params.Given as goal

abbrev pub invariant-loop-ty : goal.invariant-loop-ty
invariant-loop-ty l = callback_params_form l.catalog l.inputs ≡ option_map (λ rest. l.params ++ rest) (all_given (map (callback_param_form l.catalog) (drop l.ty-index l.inputs)))
