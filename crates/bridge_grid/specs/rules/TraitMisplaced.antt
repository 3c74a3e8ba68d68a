-- TraitMisplaced: a trait is a parameter or what a callback returns.
use Rattle.std.specs.Prelude.{ℕ}
use Rattle.bridge_rules.specs.declared.position.Position.{Position}
use Rattle.bridge_rules.specs.declared.position.Position.TheVariants as at
use Rattle.bridge_rules.specs.declared.shape.Shape.{Shape}
use Rattle.bridge_rules.specs.declared.shape.Shape.TheVariants as shape

pub data TraitMisplaced : Position → Shape → Type 0 where
  in_field : (id : ℕ) → TraitMisplaced at.Field (shape.ImplTrait id)
  to_callback : (id : ℕ) → TraitMisplaced at.CallbackParam (shape.ImplTrait id)
  in_out_field : (id : ℕ) → TraitMisplaced at.OutField (shape.ImplTrait id)
  returned : (id : ℕ) → TraitMisplaced at.Return (shape.ImplTrait id)
