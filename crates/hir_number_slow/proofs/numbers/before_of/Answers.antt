use Rattle.std.proofs.Common.{map}
use Rattle.hir_number.specs.Occurrences.{has_own, occurrences}
use Rattle.hir_number_slow.specs.Seen.{placed_seen}
use Rattle.hir_number_slow.proofs.NumberLemmas.{signature_is}
use Rattle.hir_number_slow.proofs.numbers.before_of.Goals as goal

pub returns : goal.returns
returns c =
    let uses = map placed_seen c.args.uses.now in
    signature_is c.args.declared.now c.in_ok-slow_occurrences.field-0.items c.has_own.result (occurrences uses) (has_own uses) c.in_ok-slow_occurrences.ensures c.has_own.ensures
