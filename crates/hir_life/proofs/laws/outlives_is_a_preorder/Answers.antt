use Rattle.hir_life.specs.Environment.{longer_of}
use Rattle.hir_life.proofs.Chains.{outlives_itself, outlives_through}
use Rattle.hir_life.proofs.laws.outlives_is_a_preorder.Goals as goal

pub returns-clause-reflexive : goal.returns-clause-reflexive
returns-clause-reflexive c = λ e l. outlives_itself (longer_of e) l

pub returns-clause-transitive : goal.returns-clause-transitive
returns-clause-transitive c = λ e l m s first rest. outlives_through (longer_of e) l m s first rest
