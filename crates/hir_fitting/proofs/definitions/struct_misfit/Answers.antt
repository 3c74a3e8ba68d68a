use Rattle.hir_mentions.specs.Types.{type_mentions}
use Rattle.hir_fitting.specs.Parts.{parts_of_struct}
use Rattle.hir_fitting.proofs.Telling.{answered}
use Rattle.hir_fitting.proofs.definitions.struct_misfit.Goals as goal

pub returns : goal.returns
returns g c =
    answered c.args.census.now c.args.id
    (parts_of_struct (type_mentions g.P.OpaqueOwnership.OpaqueOwner.borrow_of g.P.PositionMentions.of_struct g.P.PositionMentions.of_trait g.P.PositionMentions.of_callback) c.args.def.now)
    c.in_ok-named.named c.answer.result c.answer.ensures c.in_ok-named.ensures
