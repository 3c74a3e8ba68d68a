use Rattle.std.proofs.Common.{false}
use Rattle.hir_number.proofs.ElisionLemmas.{none_of}
use Rattle.hir_methods.specs.Required.{required_errors}
use Rattle.hir_methods.specs.Untyped.{each_untyped_errors}
use Rattle.hir_methods.proofs.required.lower_method_params.Goals as goal

pub returns-clause-made : goal.returns-clause-made
returns-clause-made g c = λ none.
    let backend = g.V.AttributeValidator.meaning c.args.validator.now in
    c.in_ok-lowered.ensures.made (none_of (each_untyped_errors backend c.args.params.now) (required_errors backend false c.args.params.now) none).0
