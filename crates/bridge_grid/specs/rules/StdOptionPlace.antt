-- StdOptionPlace: an option of a value in a struct is Diplomat's.
use Rattle.std.specs.Prelude.{◌≡◌}
use Rattle.bridge_decl.specs.declared.types.StdlibOrDiplomat.{StdlibOrDiplomat}
use Rattle.bridge_decl.specs.declared.types.StdlibOrDiplomat.TheVariants.{Stdlib}
use Rattle.bridge_rules.specs.declared.position.Position.{Position}
use Rattle.bridge_rules.specs.declared.position.Position.TheVariants as at
use Rattle.bridge_rules.specs.declared.shape.Shape.{Shape}
use Rattle.bridge_rules.specs.declared.shape.Shape.TheVariants as shape
use Rattle.bridge_rules.specs.declared.shape.Value.{Value}

pub data StdOptionPlace : Position → Shape → Type 0 where
  in_field : (v : Value) (d : StdlibOrDiplomat) → d ≡ Stdlib → StdOptionPlace at.Field (shape.OptionOfValue v d)
  in_out_field : (v : Value) (d : StdlibOrDiplomat) → d ≡ Stdlib
      → StdOptionPlace at.OutField (shape.OptionOfValue v d)
