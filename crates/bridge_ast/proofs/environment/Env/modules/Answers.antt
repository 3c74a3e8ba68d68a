use Rattle.std.proofs.Common.{subst, sym, ◌∙◌}
use Rattle.bridge_ast.specs.Sound.{AreSound}
use Rattle.bridge_ast.proofs.FittingLemmas.{sound_in_order}
use Rattle.bridge_ast.proofs.environment.Env.modules.Goals as goal

pub returns : goal.returns
returns c = record {
  all = c.as_slice.ensures ∙ c.self.view_is;
  sound = subst AreSound (sym c.as_slice.ensures) (sound_in_order c.self.inside.modules c.self.invariant.sound);
}
