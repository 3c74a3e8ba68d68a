use Rattle.hir_fields.proofs.SafetyLemmas.{safety_decided}
use Rattle.hir_fields.proofs.laws.layouts_are_tested.Goals as goal

pub returns : goal.returns
returns c = safety_decided
