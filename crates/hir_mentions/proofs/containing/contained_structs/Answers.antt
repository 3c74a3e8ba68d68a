use Rattle.std.proofs.Common.{◌++◌, ap, ◌∙◌}
use Rattle.std.specs.List.{flat_map}
use Rattle.std.proofs.lemmas.List.{take_all}
use Rattle.hir_mentions.specs.Containing.{contained_in_type}
use Rattle.hir_mentions.proofs.Listing.{next_listed}
use Rattle.hir_mentions.proofs.containing.contained_structs.Goals as goal

pub loop-field-preserved : goal.loop-field-preserved
loop-field-preserved g c =
    c.in_ok-add_contained.ensures
    ∙ ap (λ ids. ids ++ contained_in_type g.P.StructPath.StructPathLike.id_of c.field-item.result.ty) c.loop-field.invariant
    ∙ next_listed (λ f. contained_in_type g.P.StructPath.StructPathLike.id_of f.ty) c.args.fields.now c.loop-field.field-index c.field-item.result c.loop-field-test.true c.field-item.is

pub returns : goal.returns
returns g c =
    c.loop-field.invariant
    ∙ ap (λ fs. flat_map (λ f. contained_in_type g.P.StructPath.StructPathLike.id_of f.ty) fs) (take_all c.loop-field.field-index c.args.fields.now c.loop-field-test.false)
