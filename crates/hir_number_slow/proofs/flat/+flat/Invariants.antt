use Rattle.std.proofs.Common.{◌≡◌, ◌++◌, map, take}
use Rattle.hir_number.specs.Naming.{IsNaming, Naming}
use Rattle.hir_number.specs.Uses.{concatenated, type_uses}
use Rattle.hir_number_slow.specs.Seen.{use_seen}
use Rattle.hir_number_slow.proofs.flat.+flat.Given as goal

abbrev pub invariant-push_each-loop-ty : goal.invariant-push_each-loop-ty
invariant-push_each-loop-ty l = (names : Naming) → IsNaming l.env l.number names
    → map use_seen l.uses.items ≡ map use_seen l.fn.uses.items ++ concatenated (map (type_uses names) (take l.ty-index l.ty-items))
