use Rattle.hir_life.specs.Environment.{longer_of, shorter_of}
use Rattle.hir_life.proofs.Chains.{outlives_back}
use Rattle.hir_life.proofs.laws.shorter_is_the_converse_of_longer.Goals as goal

pub returns : goal.returns
returns c = λ e sound l s. (
  outlives_back (shorter_of e) (longer_of e) (λ k m h. sound.bounds.shorter_has_longer m k h) s l,
  outlives_back (longer_of e) (shorter_of e) (λ k m h. sound.bounds.longer_has_shorter k m h) l s,
)
