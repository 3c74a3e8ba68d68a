use Rattle.std.proofs.Common.{◌≡◌, map, take}
use Rattle.hir_elide.specs.Phases.{lowered_each, with_uses}
use Rattle.hir_number_slow.specs.Seen.{written_seen}
use Rattle.hir_number_slow.specs.inside.Parts.{before_seen, mode_seen}
use Rattle.hir_number_slow.proofs.numbers.lower_each.Given as goal

abbrev pub invariant-loop-lifetime : goal.invariant-loop-lifetime
invariant-loop-lifetime l = record {
  numbers : l.numbers.items ≡ lowered_each (mode_seen l.mode) (before_seen l.fn.before) (map written_seen (take l.lifetime-index l.lifetimes));
  used : before_seen l.before ≡ with_uses (mode_seen l.mode) (before_seen l.fn.before) (map written_seen (take l.lifetime-index l.lifetimes));
}
