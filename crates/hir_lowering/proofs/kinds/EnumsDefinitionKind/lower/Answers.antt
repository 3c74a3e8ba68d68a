use Rattle.std.proofs.Common.{subst}
use Rattle.bridge_ast.specs.Sound.{HasSoundLifetimes}
use Rattle.hir_lowering.proofs.kinds.EnumsDefinitionKind.lower.Goals as goal

pub lower_enum-requires-clause-sound : goal.lower_enum-requires-clause-sound
lower_enum-requires-clause-sound g c = subst HasSoundLifetimes c.in-Enum.is c.requires.sound
