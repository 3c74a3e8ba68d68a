use Rattle.hir_readings.proofs.KnowingLemmas.{input_edges_known, inputs_known}
use Rattle.hir_readings.proofs.laws.readings_know_structs_by_anything.Goals as goal

pub returns-clause-leaves : goal.returns-clause-leaves
returns-clause-leaves c = λ _ f fields_of others agree count inputs. inputs_known f fields_of others agree count inputs

pub returns-clause-edges : goal.returns-clause-edges
returns-clause-edges c = λ _ f test inputs. input_edges_known f test inputs
