use Rattle.std.proofs.Common.{◌++◌, ◌∷◌, take, ap, ◌∙◌}
use Rattle.std.proofs.lemmas.List.{take_all}
use Rattle.hir_nesting.specs.Structs.{struct_numbers}
use Rattle.hir_nesting.proofs.Building.{numbers_more}
use Rattle.hir_nesting.proofs.containment.add_all_contained.Goals as goal

pub loop-id-preserved : goal.loop-id-preserved
loop-id-preserved c = (
  c.in_ok-add_contained.ensures.each ∙ c.loop-id.invariant.0,
  λ before after is at.
      c.in_ok-add_contained.ensures.edges before after (struct_numbers c.args.counts.now.out_structs c.args.counts.now.structs (take c.loop-id.id-index c.args.ids.now)) (c.loop-id.invariant.1 before after is at) at
      ∙ ap (λ row. before ++ row ∷ after) (numbers_more c.args.counts.now.out_structs c.args.counts.now.structs c.args.ids.now c.loop-id.id-index c.id-item.result c.loop-id-test.true c.id-item.is),
)

pub returns : goal.returns
returns c = record {
  edges = λ before after is at.
      c.loop-id.invariant.1 before after is at
      ∙ ap (λ ids. before ++ struct_numbers c.args.counts.now.out_structs c.args.counts.now.structs ids ∷ after) (take_all c.loop-id.id-index c.args.ids.now c.loop-id-test.false);
  each = c.loop-id.invariant.0;
}
