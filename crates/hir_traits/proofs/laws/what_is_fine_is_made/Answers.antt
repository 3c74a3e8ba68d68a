use Rattle.hir_traits.proofs.FormLemmas.{trait_formed}
use Rattle.hir_traits.proofs.laws.what_is_fine_is_made.Goals as goal

pub returns : goal.returns
returns c = λ backend support config catalog names place start path item none. trait_formed backend support config catalog names place start path item none
