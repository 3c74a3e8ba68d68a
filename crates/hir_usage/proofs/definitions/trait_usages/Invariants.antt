use Rattle.std.proofs.Common.{◌≡◌, take}
use Rattle.std.specs.List.{flat_map}
use Rattle.hir_usage.specs.Callbacks.{callback_usages}
use Rattle.hir_usage.specs.Seen.{meant}
use Rattle.hir_usage.proofs.definitions.trait_usages.Given as goal

abbrev pub invariant-loop-method : goal.invariant-loop-method
invariant-loop-method l = meant l.uses ≡ flat_map callback_usages (take l.method-index l.method-items)
