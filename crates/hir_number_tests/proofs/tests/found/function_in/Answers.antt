use Rattle.std.proofs.Common.{[], subst}
use Rattle.std.proofs.lemmas.List.Elements.{All-head}
use Rattle.bridge_decl.specs.Lifetimes.{IsSoundEnvironment}
use Rattle.bridge_ast.specs.Sound.{HasSoundLifetimes}
use Rattle.hir_number_tests.proofs.tests.found.function_in.Goals as goal

pub returns-in-Some-Function-clause-sound : goal.returns-in-Some-Function-clause-sound
returns-in-Some-Function-clause-sound c = All-head IsSoundEnvironment _ [] (subst HasSoundLifetimes c.in-Some-Function.field-0-is c.in-Some-Function.ensures.sound)
