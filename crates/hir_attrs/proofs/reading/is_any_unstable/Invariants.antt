use Rattle.std.proofs.Common.{◌≡◌, drop}
use Rattle.std.specs.List.{list_any}
use Rattle.hir_attrs.proofs.reading.is_any_unstable.Given as goal

abbrev pub invariant-loop-feature : goal.invariant-loop-feature
invariant-loop-feature g l =
    let is_unstable = (g.V.AttributeValidator.meaning l.v).is_unstable in
    list_any is_unstable l.features ≡ list_any is_unstable (drop l.feature-index l.features)
