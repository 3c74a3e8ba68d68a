use Rattle.std.proofs.Common.{◌+◌, ◌-◌, ◌≡◌, ◌^◌, ◌≤◌, vec_len}
use Rattle.bridge_outside.proofs.ReadSoFar.{ReadSoFar}
use Rattle.bridge_outside.proofs.bytes.read_all.Given as goal

abbrev pub invariant-loop-len : goal.invariant-loop-len
invariant-loop-len g l =
    (l.len ≤ vec_len l.bytes) × (vec_len l.bytes ≤ 2 ^ 26 + 1) × ((g.S.Source.state l.source).calls ≤ (g.S.Source.state l.fn.source).calls + l.len) × ((g.S.Source.state l.source).faults ≡ (g.S.Source.state l.fn.source).faults)
    × ReadSoFar (g.S.Source.state l.fn.source).left (g.S.Source.state l.source).left l.len l.bytes.items

abbrev pub decreases-loop-len : goal.decreases-loop-len
decreases-loop-len g l = 2 ^ 26 + 1 - l.len
