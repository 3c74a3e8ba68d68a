use Rattle.std.proofs.Common.{subst}
use Rattle.bridge_ast.specs.Sound.{HasSoundLifetimes}
use Rattle.hir_lowering.proofs.kinds.OpaquesDefinitionKind.lower.Goals as goal

pub lower_opaque-requires-clause-sound : goal.lower_opaque-requires-clause-sound
lower_opaque-requires-clause-sound g c = subst HasSoundLifetimes c.in-Opaque.is c.requires.sound
