use Rattle.std.proofs.Common.{◌≡◌, drop}
use Rattle.hir_attrs.specs.Reading.{has_location}
use Rattle.hir_attrs.proofs.marks.has_location.Given as goal

abbrev pub invariant-loop-include : goal.invariant-loop-include
invariant-loop-include l = has_location l.location l.includes ≡ has_location l.location (drop l.include-index l.includes)
