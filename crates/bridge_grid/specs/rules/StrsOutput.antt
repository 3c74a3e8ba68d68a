-- StrsOutput: a list of strings comes in.
use Rattle.bridge_decl.specs.declared.types.StringEncoding.{StringEncoding}
use Rattle.bridge_rules.specs.declared.position.Position.{Position}
use Rattle.bridge_rules.specs.declared.shape.Shape.{Shape}
use Rattle.bridge_rules.specs.declared.shape.Shape.TheVariants as shape
use Rattle.bridge_grid.specs.Ways.{GoesOut}

pub data StrsOutput (at : Position) : Shape → Type 0 where
  going_out : (e : StringEncoding) → GoesOut at → StrsOutput at (shape.Strings e)
