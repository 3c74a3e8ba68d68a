use Rattle.std.proofs.Common.{◌++◌, ap, ◌∙◌}
use Rattle.std.specs.List.{flat_map}
use Rattle.std.proofs.lemmas.List.{take_all}
use Rattle.hir_mentions.proofs.Listing.{next_listed}
use Rattle.hir_usage.specs.Types.{type_usages}
use Rattle.hir_usage.proofs.definitions.field_usages.Goals as goal

pub loop-field-preserved : goal.loop-field-preserved
loop-field-preserved g c =
    c.in_ok-add_type.ensures
    ∙ ap (λ us. us ++ type_usages g.P.TyPosition.IN_OUT_STATUS g.P.OpaqueOwnership.OpaqueOwner.borrow_of g.P.StructPath.StructPathLike.id_of g.P.PositionUses.of_callback c.field-item.result.ty) c.loop-field.invariant
    ∙ next_listed (λ f. type_usages g.P.TyPosition.IN_OUT_STATUS g.P.OpaqueOwnership.OpaqueOwner.borrow_of g.P.StructPath.StructPathLike.id_of g.P.PositionUses.of_callback f.ty) c.args.fields.now c.loop-field.field-index c.field-item.result c.loop-field-test.true c.field-item.is

pub returns : goal.returns
returns g c =
    c.loop-field.invariant
    ∙ ap (λ fs. flat_map (λ f. type_usages g.P.TyPosition.IN_OUT_STATUS g.P.OpaqueOwnership.OpaqueOwner.borrow_of g.P.StructPath.StructPathLike.id_of g.P.PositionUses.of_callback f.ty) fs) (take_all c.loop-field.field-index c.args.fields.now c.loop-field-test.false)
