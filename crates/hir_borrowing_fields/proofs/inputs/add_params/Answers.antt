use Rattle.std.proofs.Common.{◌+◌, [], ◌∷◌, map, refl, subst}
use Rattle.hir_borrowing_fields.specs.inside.Walks.{GoesOn, behind, named_param, step_into, walked_type}
use Rattle.hir_borrowing_fields.proofs.WalkLemmas.{goes_on}
use Rattle.hir_borrowing_fields.proofs.inputs.add_params.Goals as goal

pub loop-number-preserved : goal.loop-number-preserved
loop-number-preserved c =
    let f = walked_type c.args.tcx.now.definitions 256 c.args.args.now in
    goes_on named_param f c.args.params.now c.loop-number.number c.index-params-number.result c.loop-number-test.true c.index-params-number.is c.args.first (c.args.first + c.loop-number.number) refl c.args.tcx.now.definitions c.args.walk.now c.loop-number.walk c.add_part.new.walk
    [] c.loop-number.invariant
    (subst (λ s. GoesOn c.args.tcx.now.definitions c.loop-number.walk c.add_part.new.walk (map (behind (step_into (c.args.first + c.loop-number.number, named_param c.index-params-number.result) ∷ [])) (f s))) c.type_part.ensures c.in_ok-add_part.ensures)
