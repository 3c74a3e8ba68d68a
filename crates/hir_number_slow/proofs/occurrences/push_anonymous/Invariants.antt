use Rattle.std.proofs.Common.{◌≡◌, ◌++◌, map, replicate}
use Rattle.bridge_decl.specs.declared.lifetimes.Lifetime.TheVariants as written
use Rattle.hir_number_slow.specs.Seen.{written_seen}
use Rattle.hir_number_slow.proofs.occurrences.push_anonymous.Given as goal

abbrev pub invariant-loop : goal.invariant-loop
invariant-loop l =
    map written_seen l.lifetimes.items ≡ map written_seen l.fn.lifetimes.items ++ replicate l.counter written.Anonymous
