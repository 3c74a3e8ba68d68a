use Rattle.std.proofs.Common.{subst}
use Rattle.std.proofs.lemmas.List.Elements.{All-tail}
use Rattle.bridge_decl.specs.Lifetimes.{IsSoundEnvironment}
use Rattle.bridge_ast.specs.Sound.{HasSoundLifetimes}
use Rattle.hir_number_tests.proofs.FoundLemmas.{all_before_map}
use Rattle.hir_number_tests.proofs.tests.found.trait_method_in.Goals as goal

pub first_trait_method-requires : goal.first_trait_method-requires
first_trait_method-requires c =
    rw (c.as_slice.ensures)
    (all_before_map IsSoundEnvironment (λ method. method.lifetimes) c.in-Some-Trait.item.methods
    (All-tail IsSoundEnvironment _ _ (subst HasSoundLifetimes c.in-Some-Trait.field-0-is c.in-Some-Trait.ensures.sound)))
