use Rattle.std.proofs.Common.{subst, sym}
use Rattle.bridge_leaves.specs.inside.Totals.{CountsType}
use Rattle.hir_life.specs.Substitution.{subst_each}
use Rattle.hir_parts.specs.Parts.{input_skeleton}
use Rattle.bridge_leaves.proofs.counts.part_count.Goals as goal

pub returns-in-Struct : goal.returns-in-Struct
returns-in-Struct c =
    subst (λ p. CountsType c.args.tcx.now.definitions (input_skeleton p) c.struct_count.result) (sym c.in-Struct.is)
    (λ args. c.struct_count.ensures (subst_each c.in-Struct.field-1.now args))
