use Rattle.std.proofs.Common.{◌≡◌, map, drop}
use Rattle.hir_backends.specs.Conditions.{condition_met, settled}
use Rattle.hir_backends.proofs.conditions.+meets.Given as goal

abbrev pub invariant-meets_list-loop-part : goal.invariant-meets_list-loop-part
invariant-meets_list-loop-part g l =
    settled l.needs_all (map (λ part. part l.allowed) (map (condition_met (g.V.AttributeValidator.meaning l.v)) l.parts))
    ≡ settled l.needs_all (map (λ part. part l.allowed) (map (condition_met (g.V.AttributeValidator.meaning l.v)) (drop l.part-index l.parts)))
