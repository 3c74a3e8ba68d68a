use Rattle.hir_explain.proofs.Meaning.{chain_lists, separates_not}
use Rattle.hir_explain.proofs.laws.explanations_hold.Goals as goal

pub returns-clause-chain : goal.returns-clause-chain
returns-clause-chain c = λ e carried t chain proves. chain_lists e carried t chain proves.shows

pub returns-clause-separating : goal.returns-clause-separating
returns-clause-separating c = λ e carried t long proves listed. separates_not e carried t long proves.shows listed
