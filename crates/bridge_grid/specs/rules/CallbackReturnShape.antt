-- CallbackReturnShape: a callback returns no reference to a struct.
use Rattle.std.specs.Prelude.{ℕ}
use Rattle.hir_ids.specs.declared.owners.Borrow.{Borrow}
use Rattle.bridge_rules.specs.declared.position.Position.{Position}
use Rattle.bridge_rules.specs.declared.position.Position.TheVariants as at
use Rattle.bridge_rules.specs.declared.shape.Shape.{Shape}
use Rattle.bridge_rules.specs.declared.shape.Shape.TheVariants as shape

pub data CallbackReturnShape : Position → Shape → Type 0 where
  reference : (b : Borrow) (id : ℕ) → CallbackReturnShape at.CallbackReturn (shape.StructReference b id)
  out_reference : (b : Borrow) (id : ℕ) → CallbackReturnShape at.CallbackReturn (shape.OutStructReference b id)
