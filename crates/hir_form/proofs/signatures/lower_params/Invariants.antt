use Rattle.std.proofs.Common.{◌≡◌, ◌++◌, drop, map}
use Rattle.std.specs.Prelude.{option_map}
use Rattle.hir_form.specs.ParamForms.{all_given, param_form, params_form}
use Rattle.hir_form.proofs.signatures.lower_params.Given as goal

abbrev pub invariant-loop-ty : goal.invariant-loop-ty
invariant-loop-ty l = params_form l.catalog l.types ≡ option_map (λ rest. l.params ++ rest) (all_given (map (param_form l.catalog) (drop l.ty-index l.types)))
