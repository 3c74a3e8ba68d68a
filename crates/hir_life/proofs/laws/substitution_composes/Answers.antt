use Rattle.hir_life.proofs.Substituting.{subst_through}
use Rattle.hir_life.proofs.laws.substitution_composes.Goals as goal

pub returns : goal.returns
returns c = λ l a b _ _. subst_through l a b
