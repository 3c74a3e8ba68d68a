use Rattle.std.proofs.Common.{◌≡◌, replicate}
use Rattle.hir_definitions.specs.Usage.{unused}
use Rattle.hir_usage.proofs.tables.all_unused.Given as goal

abbrev pub invariant-loop : goal.invariant-loop
invariant-loop l = l.infos.items ≡ replicate l.counter unused
