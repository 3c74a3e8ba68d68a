use Rattle.std.proofs.Common.{ap, map, subst, ◌∙◌}
use Rattle.hir_mentions.specs.Definitions.{fields_mentions}
use Rattle.hir_mentions.specs.Seen.{mentioned}
use Rattle.hir_mentions.specs.Types.{type_mentions}
use Rattle.hir_fitting.specs.Parts.{bound}
use Rattle.hir_fitting.specs.inside.Telling.{PartTells}
use Rattle.hir_fitting.proofs.parts.fields_misfit.Goals as goal

pub returns : goal.returns
returns g c =
    let of_type =
    type_mentions {P = g.row.P.Denot} {I = g.row.P-StructId.Denot} g.P.OpaqueOwnership.OpaqueOwner.borrow_of g.P.PositionMentions.of_struct
    g.P.PositionMentions.of_trait g.P.PositionMentions.of_callback
    in
    subst (λ n. PartTells c.args.census.now c.args.holder.now (bound n (fields_mentions of_type c.args.def.now.fields)) c.part_misfit.result) c.num_lifetimes-count.ensures.value
    (subst (λ ms. PartTells c.args.census.now c.args.holder.now (bound c.num_lifetimes-count.result ms) c.part_misfit.result)
    (ap (map mentioned) c.as_slice-2.ensures.value ∙ c.in_ok-mentions.ensures ∙ ap (fields_mentions of_type) c.as_slice.ensures) c.part_misfit.ensures)
