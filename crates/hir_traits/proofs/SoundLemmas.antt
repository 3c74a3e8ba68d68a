-- The lifetimes of the methods of a trait fit together.
use Rattle.std.proofs.Common.{List, [], ◌∷◌, map}
use Rattle.std.specs.Prelude.{All}
use Rattle.std.proofs.lemmas.List.Elements.{All-cons, All-head, All-nil, All-tail}
use Rattle.bridge_decl.specs.Lifetimes.{IsSoundEnvironment}
use Rattle.bridge_decl.specs.declared.traits.TraitMethod.{TraitMethod}

pub each_sound : (methods : List TraitMethod) → All IsSoundEnvironment (map (λ (m : TraitMethod). m.lifetimes) methods) → All (λ (m : TraitMethod). IsSoundEnvironment m.lifetimes) methods
each_sound [] all = All-nil (λ (m : TraitMethod). IsSoundEnvironment m.lifetimes)
each_sound (m ∷ methods) all =
    All-cons (λ (x : TraitMethod). IsSoundEnvironment x.lifetimes) m methods (All-head IsSoundEnvironment m.lifetimes (map (λ (x : TraitMethod). x.lifetimes) methods) all)
    (each_sound methods (All-tail IsSoundEnvironment m.lifetimes (map (λ (x : TraitMethod). x.lifetimes) methods) all))
