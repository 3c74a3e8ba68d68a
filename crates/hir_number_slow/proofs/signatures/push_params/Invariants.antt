use Rattle.std.proofs.Common.{◌≡◌, ◌++◌, map, take}
use Rattle.hir_number.specs.Naming.{IsNaming, Naming}
use Rattle.hir_number.specs.Signatures.{param_uses}
use Rattle.hir_number_slow.specs.Seen.{use_seen}
use Rattle.hir_number_slow.proofs.signatures.push_params.Given as goal

abbrev pub invariant-loop-param : goal.invariant-loop-param
invariant-loop-param l = (names : Naming) → IsNaming l.env l.number names
    → map use_seen l.uses.items ≡ map use_seen l.fn.uses.items ++ param_uses names (take l.param-index l.params)
