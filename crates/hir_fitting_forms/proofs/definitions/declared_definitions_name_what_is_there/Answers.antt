use Rattle.hir_fitting_forms.proofs.Whole.{all_fit, all_named}
use Rattle.hir_fitting_forms.proofs.definitions.declared_definitions_name_what_is_there.Goals as goal

pub returns-clause-named : goal.returns-clause-named
returns-clause-named c = λ modules defs have each. all_named modules defs have each

pub returns-clause-fit : goal.returns-clause-fit
returns-clause-fit c = λ modules defs unfit have each well. all_fit modules defs unfit have each well
