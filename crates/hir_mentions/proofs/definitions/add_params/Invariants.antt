use Rattle.std.proofs.Common.{◌≡◌, ◌++◌, take}
use Rattle.std.specs.List.{flat_map}
use Rattle.hir_mentions.specs.Callbacks.{input_mentions}
use Rattle.hir_mentions.specs.Seen.{all_mentioned}
use Rattle.hir_mentions.proofs.definitions.add_params.Given as goal

abbrev pub invariant-loop-param : goal.invariant-loop-param
invariant-loop-param l = all_mentioned l.mentions ≡ all_mentioned l.fn.mentions ++ flat_map (λ p. input_mentions p.ty) (take l.param-index l.params)
