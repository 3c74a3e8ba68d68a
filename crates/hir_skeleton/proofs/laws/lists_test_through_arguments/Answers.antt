use Rattle.hir_skeleton.proofs.Own.{lists_through}
use Rattle.hir_skeleton.proofs.laws.lists_test_through_arguments.Goals as goal

pub returns : goal.returns
returns c = λ _ fields_of levels args s test. lists_through fields_of levels args s test
