use Rattle.std.proofs.Common.{◌≡◌, ◌+◌, Some, drop, sym, ap, ◌∙◌}
use Rattle.std.proofs.lemmas.List.{at_drop_more}
use Rattle.hir_attrs.specs.inside.Digits.{value_from}
use Rattle.hir_attrs.proofs.DigitLemmas.{none_stays}
use Rattle.hir_attrs.proofs.values.read_digits.Goals as goal

pub returns-in-None-clause-value : goal.returns-in-None-clause-value
returns-in-None-clause-value c =
    let place = c.loop-byte.byte-index in
    let bytes = c.as_bytes-byte-items.result.now in
    sym
    (c.loop-byte.invariant.value
    ∙ at_drop_more (value_from (Some c.loop-byte.value)) bytes place 0 c.loop-byte-test.true
    ∙ ap (λ next. value_from next (drop (place + 1) bytes)) (sym c.next_value.ensures ∙ c.in-None.is)
    ∙ none_stays (drop (place + 1) bytes))
