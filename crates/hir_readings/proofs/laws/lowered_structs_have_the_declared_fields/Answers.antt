use Rattle.hir_readings.proofs.AgreeLemmas.{all_fields, structs_have}
use Rattle.hir_readings.proofs.laws.lowered_structs_have_the_declared_fields.Goals as goal

pub returns : goal.returns
returns c = λ it d place is_catalog lowered. all_fields it d.structs.items (structs_have it d lowered) is_catalog place
