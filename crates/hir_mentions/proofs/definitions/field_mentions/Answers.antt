use Rattle.std.proofs.Common.{◌++◌, ap, ◌∙◌}
use Rattle.std.specs.List.{flat_map}
use Rattle.std.proofs.lemmas.List.{take_all}
use Rattle.hir_mentions.specs.Types.{type_mentions}
use Rattle.hir_mentions.proofs.Listing.{next_listed}
use Rattle.hir_mentions.proofs.definitions.field_mentions.Goals as goal

pub loop-field-preserved : goal.loop-field-preserved
loop-field-preserved g c =
    c.in_ok-add_type.ensures
    ∙ ap (λ ms. ms ++ type_mentions g.P.OpaqueOwnership.OpaqueOwner.borrow_of g.P.PositionMentions.of_struct g.P.PositionMentions.of_trait g.P.PositionMentions.of_callback c.field-item.result.ty) c.loop-field.invariant
    ∙ next_listed (λ f. type_mentions g.P.OpaqueOwnership.OpaqueOwner.borrow_of g.P.PositionMentions.of_struct g.P.PositionMentions.of_trait g.P.PositionMentions.of_callback f.ty) c.args.fields.now c.loop-field.field-index c.field-item.result c.loop-field-test.true c.field-item.is

pub returns : goal.returns
returns g c =
    c.loop-field.invariant
    ∙ ap (λ fs. flat_map (λ f. type_mentions g.P.OpaqueOwnership.OpaqueOwner.borrow_of g.P.PositionMentions.of_struct g.P.PositionMentions.of_trait g.P.PositionMentions.of_callback f.ty) fs) (take_all c.loop-field.field-index c.args.fields.now c.loop-field-test.false)
