use Rattle.std.proofs.Common.{◌≡◌}
use Rattle.hir_types.specs.inside.Numbers.{with_numbers}
use Rattle.hir_types.proofs.named.add_all.Given as goal

abbrev pub invariant-loop-lifetime : goal.invariant-loop-lifetime
invariant-loop-lifetime l =
    with_numbers l.numbers.keys l.lifetime-iterator ≡ with_numbers l.initial.numbers.keys l.initial.lifetime-iterator
