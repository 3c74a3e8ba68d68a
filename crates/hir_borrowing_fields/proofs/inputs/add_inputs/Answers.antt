use Rattle.std.proofs.Common.{◌∷◌, [], length, map, subst, sym}
use Rattle.std.specs.List.{All}
use Rattle.hir_mentions.specs.Mentions.{where_any}
use Rattle.hir_skeleton.specs.Lowered.{receiver_skeleton}
use Rattle.hir_skeleton.specs.Inputs.{param_skeleton}
use Rattle.hir_borrowing_fields.specs.inside.InputFits.{SkeletonFits}
use Rattle.hir_borrowing_fields.specs.inside.Walks.{GoesOn, behind, leaves_from, named_param, named_receiver, walked_type}
use Rattle.hir_borrowing_fields.proofs.WalkLemmas.{all_behind, goes_both}
use Rattle.hir_borrowing_fields.proofs.inputs.add_inputs.Goals as goal

pub add_params-requires-clause-fit : goal.add_params-requires-clause-fit
add_params-requires-clause-fit c =
    subst (All (λ p. SkeletonFits c.args.tcx.now.definitions (length c.args.args.now) (param_skeleton p.ty))) (sym c.as_slice.ensures)
    (all_behind (SkeletonFits c.args.tcx.now.definitions (length c.args.args.now)) (λ p. param_skeleton p.ty) (where_any (λ r. receiver_skeleton r.ty ∷ []) c.args.method.now.param_self) c.args.method.now.params c.requires.fit)

pub returns : goal.returns
returns c =
    let f = walked_type c.args.tcx.now.definitions 256 c.args.args.now in
    goes_both c.args.tcx.now.definitions c.args.walk.now c.add_receiver.new.walk c.add_params.new.walk f (named_receiver c.args.self_name.now c.args.method.now.param_self) (map named_param c.args.method.now.params)
    c.in_ok-add_receiver.ensures
    (subst (λ params. GoesOn c.args.tcx.now.definitions c.add_receiver.new.walk c.add_params.new.walk (map (behind []) (leaves_from (length (named_receiver c.args.self_name.now c.args.method.now.param_self)) f (map named_param params)))) c.as_slice.ensures
    (subst (λ n. GoesOn c.args.tcx.now.definitions c.add_receiver.new.walk c.add_params.new.walk (map (behind []) (leaves_from n f (map named_param c.as_slice.result.now)))) (c.first_param-first.ensures.behind c.args.self_name.now) c.in_ok-add_params.ensures))
