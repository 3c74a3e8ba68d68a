use Rattle.std.proofs.Common.{◌≡◌, false, take}
use Rattle.hir_elide.specs.Occurrences.{used_as}
use Rattle.hir_number_slow.specs.Seen.{signature_seen}
use Rattle.hir_number_slow.specs.inside.Parts.{role_test}
use Rattle.hir_number_slow.proofs.before.used_as.Given as goal

abbrev pub invariant-loop-index : goal.invariant-loop-index
invariant-loop-index l = l.numbers.items ≡ used_as (role_test l.wanted) (signature_seen l.declared (take l.index l.occurrences) false)
