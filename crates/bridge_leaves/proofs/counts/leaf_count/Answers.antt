use Rattle.std.proofs.Common.{◌++◌, ◌∷◌, [], List, map, take, ap, subst, ◌∙◌, append_assoc}
use Rattle.std.proofs.lemmas.List.{take_all}
use Rattle.bridge_leaves.specs.inside.Totals.{CountsInputs}
use Rattle.hir_definitions.specs.declared.methods.Param.{Param}
use Rattle.hir_ids.specs.declared.ids.TypeId.{TypeId}
use Rattle.hir_mentions.specs.Mentions.{where_any}
use Rattle.hir_skeleton.specs.Inputs.{param_skeleton}
use Rattle.hir_skeleton.specs.Lowered.{receiver_skeleton}
use Rattle.hir_skeleton.specs.Skeletons.{Skeleton}
use Rattle.bridge_leaves.proofs.ReportLemmas.{input_more, method_count}
use Rattle.bridge_leaves.proofs.RowLemmas.{map_next}
use Rattle.bridge_leaves.proofs.counts.leaf_count.Goals as goal

pub loop-param-preserved : goal.loop-param-preserved
loop-param-preserved c =
    let defs = c.args.tcx.now.definitions in
    let receiver : List (Skeleton TypeId) = where_any (λ r. receiver_skeleton r.ty ∷ []) c.args.method.now.param_self in
    let skeleton : Param → Skeleton TypeId = λ p. param_skeleton p.ty in
    let params : List Param = c.args.method.now.params in
    let i = c.loop-param.param-index in
    subst (λ (xs : List (Skeleton TypeId)). CountsInputs defs xs c.counted-count.result)
    (append_assoc receiver (map skeleton (take i params)) (skeleton c.param-item.result ∷ [])
    ∙ ap (λ (xs : List (Skeleton TypeId)). receiver ++ xs) (map_next skeleton params i c.param-item.result (rw c.as_slice-param-items.ensures at c.loop-param-test.true) (rw c.as_slice-param-items.ensures at c.param-item.is)))
    (input_more defs (receiver ++ map skeleton (take i params)) (skeleton c.param-item.result) c.loop-param.count c.param_count.result c.counted-count.result
    c.loop-param.invariant c.param_count.ensures c.counted-count.ensures)

pub returns : goal.returns
returns c =
    let defs = c.args.tcx.now.definitions in
    let receiver : List (Skeleton TypeId) = where_any (λ r. receiver_skeleton r.ty ∷ []) c.args.method.now.param_self in
    let params : List Param = c.args.method.now.params in
    method_count defs c.args.method.now c.loop-param.count
    (subst (λ (ps : List Param). CountsInputs defs (receiver ++ map (λ p. param_skeleton p.ty) ps) c.loop-param.count)
    (take_all c.loop-param.param-index params (rw c.as_slice-param-items.ensures at c.loop-param-test.false)) c.loop-param.invariant)
