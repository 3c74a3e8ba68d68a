use Rattle.hir_readings.proofs.ReturnLemmas.{return_named}
use Rattle.hir_readings.proofs.laws.returns_name_the_lifetimes_of_their_types.Goals as goal

pub returns : goal.returns
returns c = λ catalog written ty. return_named catalog written ty
