use Rattle.std.proofs.Common.{subst}
use Rattle.bridge_ast.specs.Sound.{AreSound}
use Rattle.bridge_ast.proofs.FittingLemmas.{sound_in_order, environment_fits}
use Rattle.bridge_ast.proofs.environment.Env.lifetimes_fit_together.Goals as goal

pub returns : goal.returns
returns c =
    let sound = subst AreSound c.self.view_is (sound_in_order c.self.inside.modules c.self.invariant.sound) in
    λ m item env here inside declared. environment_fits c.args.self.now sound m item env here inside declared
