use Rattle.std.proofs.Common.{subst}
use Rattle.bridge_ast.specs.Sound.{HasSoundLifetimes}
use Rattle.hir_lowering.proofs.kinds.FunctionsDefinitionKind.lower.Goals as goal

pub lower_free_function-requires-clause-sound : goal.lower_free_function-requires-clause-sound
lower_free_function-requires-clause-sound g c = subst HasSoundLifetimes c.in-Function.is c.requires.sound
