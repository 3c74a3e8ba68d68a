use Rattle.std.proofs.Common.{subst}
use Rattle.std.proofs.lemmas.List.Elements.{All-head}
use Rattle.bridge_decl.specs.Lifetimes.{IsSoundEnvironment}
use Rattle.bridge_ast.specs.Sound.{HasSoundLifetimes}
use Rattle.hir_number_tests.proofs.tests.found.struct_in.Goals as goal

pub returns-in-Some-Struct-clause-sound : goal.returns-in-Some-Struct-clause-sound
returns-in-Some-Struct-clause-sound c = All-head IsSoundEnvironment _ _ (subst HasSoundLifetimes c.in-Some-Struct.field-0-is c.in-Some-Struct.ensures.sound)
