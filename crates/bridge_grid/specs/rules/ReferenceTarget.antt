-- ReferenceTarget: a reference is to an opaque, or, where it comes in, to a struct.
use Rattle.std.specs.Prelude.{ℕ}
use Rattle.hir_ids.specs.declared.owners.Borrow.{Borrow}
use Rattle.bridge_rules.specs.declared.position.Position.{Position}
use Rattle.bridge_rules.specs.declared.position.Position.TheVariants as at
use Rattle.bridge_rules.specs.declared.shape.Shape.{Shape}
use Rattle.bridge_rules.specs.declared.shape.Shape.TheVariants as shape

pub data ReferenceTarget : Position → Shape → Type 0 where
  other : (at : Position) → ReferenceTarget at shape.OtherReference
  struct_to_callback : (b : Borrow) (id : ℕ) → ReferenceTarget at.CallbackParam (shape.StructReference b id)
  struct_in_out_field : (b : Borrow) (id : ℕ) → ReferenceTarget at.OutField (shape.StructReference b id)
  struct_returned : (b : Borrow) (id : ℕ) → ReferenceTarget at.Return (shape.StructReference b id)
  out_struct_to_callback : (b : Borrow) (id : ℕ)
      → ReferenceTarget at.CallbackParam (shape.OutStructReference b id)
  out_struct_in_out_field : (b : Borrow) (id : ℕ) → ReferenceTarget at.OutField (shape.OutStructReference b id)
  out_struct_returned : (b : Borrow) (id : ℕ) → ReferenceTarget at.Return (shape.OutStructReference b id)
