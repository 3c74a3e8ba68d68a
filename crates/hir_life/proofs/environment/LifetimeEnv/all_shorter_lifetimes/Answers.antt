use Rattle.hir_life.specs.Environment.{longer_of, shorter_of}
use Rattle.hir_life.proofs.Chains.{outlives_back}
use Rattle.hir_life.proofs.environment.LifetimeEnv.all_shorter_lifetimes.Goals as goal

pub returns-clause-converse : goal.returns-clause-converse
returns-clause-converse c = λ l s. (
  outlives_back (shorter_of c.args.self.now) (longer_of c.args.self.now)
      (λ k m h. c.new.ensures.sound.bounds.shorter_has_longer m k h) s l,
  outlives_back (longer_of c.args.self.now) (shorter_of c.args.self.now)
      (λ k m h. c.new.ensures.sound.bounds.longer_has_shorter k m h) l s,
)
