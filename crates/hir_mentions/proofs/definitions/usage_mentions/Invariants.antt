use Rattle.std.proofs.Common.{◌≡◌, take}
use Rattle.std.specs.List.{flat_map}
use Rattle.hir_mentions.specs.Definitions.{result_mentions}
use Rattle.hir_mentions.specs.Seen.{all_mentioned}
use Rattle.hir_mentions.proofs.definitions.usage_mentions.Given as goal

abbrev pub invariant-loop-usage : goal.invariant-loop-usage
invariant-loop-usage l = all_mentioned l.mentions ≡ flat_map result_mentions (take l.usage-index l.usage-items)
