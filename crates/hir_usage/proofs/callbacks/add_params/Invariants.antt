use Rattle.std.proofs.Common.{◌≡◌, ◌++◌, take}
use Rattle.std.specs.List.{flat_map}
use Rattle.hir_usage.specs.Callbacks.{input_usages}
use Rattle.hir_usage.specs.Seen.{meant}
use Rattle.hir_usage.proofs.callbacks.add_params.Given as goal

abbrev pub invariant-loop-param : goal.invariant-loop-param
invariant-loop-param l = meant l.uses ≡ meant l.fn.uses ++ flat_map (λ p. input_usages p.ty) (take l.param-index l.params)
