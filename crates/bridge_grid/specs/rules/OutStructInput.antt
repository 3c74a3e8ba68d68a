-- OutStructInput: an out-struct doesn't come in, not by reference either.
use Rattle.std.specs.Prelude.{ℕ}
use Rattle.hir_ids.specs.declared.owners.Borrow.{Borrow}
use Rattle.bridge_rules.specs.declared.position.Position.{Position}
use Rattle.bridge_rules.specs.declared.position.Position.TheVariants as at
use Rattle.bridge_rules.specs.declared.shape.Shape.{Shape}
use Rattle.bridge_rules.specs.declared.shape.Shape.TheVariants as shape
use Rattle.bridge_rules.specs.declared.shape.Value.TheVariants as value
use Rattle.bridge_grid.specs.Ways.{ComesIn}

pub data OutStructInput : Position → Shape → Type 0 where
  by_value : (at : Position) (id : ℕ) → ComesIn at → OutStructInput at (shape.Value (value.OutStruct id))
  by_reference_in_field : (b : Borrow) (id : ℕ) → OutStructInput at.Field (shape.OutStructReference b id)
  by_reference_in_parameter : (b : Borrow) (id : ℕ) → OutStructInput at.Param (shape.OutStructReference b id)
