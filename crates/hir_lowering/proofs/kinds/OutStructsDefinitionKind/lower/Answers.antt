use Rattle.std.proofs.Common.{subst}
use Rattle.bridge_ast.specs.Sound.{HasSoundLifetimes}
use Rattle.hir_lowering.proofs.kinds.OutStructsDefinitionKind.lower.Goals as goal

pub lower_out_struct-requires-clause-sound : goal.lower_out_struct-requires-clause-sound
lower_out_struct-requires-clause-sound g c = subst HasSoundLifetimes c.in-Struct.is c.requires.sound
