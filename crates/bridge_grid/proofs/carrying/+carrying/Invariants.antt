use Rattle.std.proofs.Common.{◌≡◌, map, take}
use Rattle.std.specs.List.{list_any}
use Rattle.bridge_grid.specs.Carrying.{carries}
use Rattle.bridge_grid.proofs.carrying.+carrying.Given as goal

abbrev pub invariant-carries_any-loop-ty : goal.invariant-carries_any-loop-ty
invariant-carries_any-loop-ty l = l.found ≡ list_any (λ b. b) (map carries (take l.ty-index l.ty-items))
