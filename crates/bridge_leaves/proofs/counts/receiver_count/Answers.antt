use Rattle.std.proofs.Common.{[], ◌∷◌, Option, subst, sym}
use Rattle.bridge_leaves.specs.inside.Totals.{CountsInputs}
use Rattle.hir_definitions.specs.declared.methods.ParamSelf.{ParamSelf}
use Rattle.hir_mentions.specs.Mentions.{where_any}
use Rattle.hir_skeleton.specs.Lowered.{receiver_skeleton}
use Rattle.bridge_leaves.proofs.ReportLemmas.{one_input}
use Rattle.bridge_leaves.proofs.counts.receiver_count.Goals as goal

pub returns-in-Some : goal.returns-in-Some
returns-in-Some c =
    subst (λ (r : Option ParamSelf). CountsInputs c.args.tcx.now.definitions (where_any (λ r. receiver_skeleton r.ty ∷ []) r) c.self_count.result) (sym c.in-Some.is)
    (one_input c.args.tcx.now.definitions (receiver_skeleton c.in-Some.receiver.ty) c.self_count.result c.self_count.ensures)
