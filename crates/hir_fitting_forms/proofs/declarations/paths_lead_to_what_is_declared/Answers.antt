use Rattle.hir_fitting_forms.proofs.Catalogued.{names_fit}
use Rattle.hir_fitting_forms.proofs.declarations.paths_lead_to_what_is_declared.Goals as goal

pub returns : goal.returns
returns c = λ modules catalog number names is_catalog is_naming. names_fit modules catalog is_catalog number names is_naming
