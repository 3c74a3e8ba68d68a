use Rattle.std.proofs.Common.{subst}
use Rattle.bridge_ast.specs.Sound.{HasSoundLifetimes}
use Rattle.hir_lowering.proofs.kinds.TraitsDefinitionKind.lower.Goals as goal

pub lower_trait-requires-clause-sound : goal.lower_trait-requires-clause-sound
lower_trait-requires-clause-sound g c = subst HasSoundLifetimes c.in-Trait.is c.requires.sound
