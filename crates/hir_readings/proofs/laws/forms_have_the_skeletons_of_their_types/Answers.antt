use Rattle.hir_readings.proofs.TypeLemmas.{field_has, input_received, param_has}
use Rattle.hir_readings.proofs.laws.forms_have_the_skeletons_of_their_types.Goals as goal

pub returns-clause-field : goal.returns-clause-field
returns-clause-field c = λ catalog ty. field_has catalog ty

pub returns-clause-param : goal.returns-clause-param
returns-clause-param c = λ catalog ty. param_has catalog ty

pub returns-clause-receiver : goal.returns-clause-receiver
returns-clause-receiver c = λ catalog borrow target. input_received catalog borrow target
