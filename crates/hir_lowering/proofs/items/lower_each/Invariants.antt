use Rattle.std.proofs.Common.{◌≡◌, ◌++◌, take}
use Rattle.hir_lowering.specs.Interface.{Interface}
use Rattle.hir_lowering.specs.Placing.{each_made, each_report}
use Rattle.hir_lowering.specs.inside.Walking.{IsInterface, Lends}
use Rattle.hir_modules.specs.Holding.{HoldsStill}
use Rattle.hir_lowering.proofs.items.lower_each.Given as goal

abbrev pub invariant-loop-place : goal.invariant-loop-place
invariant-loop-place g l =
    ((it : Interface) → IsInterface it → Lends (g.V.AttributeValidator.meaning l.lent.validator.now) l.lent it
    → (l.errors.reports ≡ l.fn.errors.reports ++ each_report it g.K.DefinitionKind.told (take l.place-index l.places))
    × (l.made.items ≡ each_made it g.K.DefinitionKind.told g.K.DefinitionKind.made (take l.place-index l.places)))
    × HoldsStill l.fn.errors l.errors
