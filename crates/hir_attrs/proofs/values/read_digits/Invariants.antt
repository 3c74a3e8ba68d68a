use Rattle.std.proofs.Common.{◌≡◌, ◌≤◌, Some, drop}
use Rattle.hir_attrs.specs.Values.{most_integer}
use Rattle.hir_attrs.specs.inside.Digits.{value_from}
use Rattle.hir_attrs.proofs.values.read_digits.Given as goal

abbrev pub invariant-loop-byte : goal.invariant-loop-byte
invariant-loop-byte l = record {
  value : value_from (Some 0) l.text ≡ value_from (Some l.value) (drop l.byte-index l.byte-items);
  least : l.value ≤ most_integer;
}
