use Rattle.std.proofs.Common.{map, take}
use Rattle.std.specs.List.{All}
use Rattle.hir_mentions.specs.Seen.{mentioned}
use Rattle.hir_fitting.specs.Fitting.{Fits}
use Rattle.hir_fitting.proofs.parts.part_misfit.Given as goal

abbrev pub invariant-loop-mention : goal.invariant-loop-mention
invariant-loop-mention l = All (Fits l.census l.count) (map mentioned (take l.mention-index l.mentions))
