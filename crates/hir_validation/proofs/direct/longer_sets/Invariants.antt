use Rattle.std.proofs.Common.{◌≡◌, length}
use Rattle.hir_validation.specs.inside.Direct.{AreLonger}
use Rattle.hir_validation.proofs.direct.longer_sets.Given as goal

abbrev pub invariant-loop-number : goal.invariant-loop-number
invariant-loop-number l = (length l.sets.items ≡ l.number) × AreLonger l.env l.sets.items
