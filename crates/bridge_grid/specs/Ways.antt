-- Which positions are of what comes in from the other language, and which of what goes out to it.
use Rattle.std.specs.Prelude.{⊤}
use Rattle.bridge_rules.specs.declared.position.Position.{Position}
use Rattle.bridge_rules.specs.declared.position.Position.TheVariants as at

abbrev pub ComesIn : Position → Type 0
ComesIn at.Field = ⊤
ComesIn at.Param = ⊤
ComesIn at.CallbackReturn = ⊤
ComesIn at.CallbackParam = ⊥
ComesIn at.OutField = ⊥
ComesIn at.Return = ⊥

abbrev pub GoesOut : Position → Type 0
GoesOut at.Field = ⊥
GoesOut at.Param = ⊥
GoesOut at.CallbackReturn = ⊥
GoesOut at.CallbackParam = ⊤
GoesOut at.OutField = ⊤
GoesOut at.Return = ⊤
