use Rattle.std.proofs.Common.{◌≡◌, take}
use Rattle.std.specs.List.{flat_map}
use Rattle.hir_mentions.specs.Callbacks.{callback_mentions}
use Rattle.hir_mentions.specs.Seen.{all_mentioned}
use Rattle.hir_mentions.proofs.definitions.trait_mentions.Given as goal

abbrev pub invariant-loop-method : goal.invariant-loop-method
invariant-loop-method l = all_mentioned l.mentions ≡ flat_map callback_mentions (take l.method-index l.method-items)
