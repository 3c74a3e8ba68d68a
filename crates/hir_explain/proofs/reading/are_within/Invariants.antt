use Rattle.std.proofs.Common.{◌<◌, take}
use Rattle.std.specs.List.{All}
use Rattle.hir_explain.proofs.reading.are_within.Given as goal

abbrev pub invariant-loop-lifetime : goal.invariant-loop-lifetime
invariant-loop-lifetime l = All (λ n. n < l.env.count) (take l.lifetime-index l.list)
