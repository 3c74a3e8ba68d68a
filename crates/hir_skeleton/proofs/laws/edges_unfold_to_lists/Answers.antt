use Rattle.hir_skeleton.proofs.Edging.{list_is_own, list_is_unfolded}
use Rattle.hir_skeleton.proofs.laws.edges_unfold_to_lists.Goals as goal

pub returns-clause-own : goal.returns-clause-own
returns-clause-own c = λ _ fields_of count optional s test path within. list_is_own fields_of 256 count optional s test path within

pub returns-clause-given : goal.returns-clause-given
returns-clause-given c = λ _ fields_of levels args optional s test path. list_is_unfolded fields_of levels test optional args s path
