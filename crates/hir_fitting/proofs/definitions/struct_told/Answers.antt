use Rattle.std.proofs.Common.{sym, ◌∙◌}
use Rattle.hir_mentions.specs.Types.{type_mentions}
use Rattle.hir_fitting.specs.Parts.{fields_part, parts_of_type}
use Rattle.hir_fitting.proofs.Telling.{later_ok}
use Rattle.hir_fitting.proofs.definitions.struct_told.Goals as goal

pub returns : goal.returns
returns g c =
    let def = c.args.def.now in
    later_ok c.args.census.now c.args.holder.now (fields_part (type_mentions g.P.OpaqueOwnership.OpaqueOwner.borrow_of g.P.PositionMentions.of_struct g.P.PositionMentions.of_trait g.P.PositionMentions.of_callback) def)
    (parts_of_type def.methods def.special_method_presence def.usage) c.in_ok-named.named c.type_misfit.result (sym c.is_some.ensures ∙ c.if-is_some.false) c.in_ok-named.ensures c.type_misfit.ensures
