use Rattle.std.proofs.Common.{◌≡◌, ◌++◌, ◌∷◌, ◌+◌, ◌-◌, ◌<◌, [], List, ℕ, suc, arith, length, replicate, take, ap, ◌∙◌}
use Rattle.std.proofs.lemmas.List.{length-append}
use Rattle.hir_mentions.specs.Containing.{contained_in}
use Rattle.hir_nesting.specs.Structs.{struct_numbers}
use Rattle.hir_nesting.proofs.Rows.{filled, rows, rows_at, rows_more}
use Rattle.hir_nesting.proofs.containment.add_structs.Goals as goal

pub loop-place-preserved : goal.loop-place-preserved
loop-place-preserved g c = (
  c.in_ok-add_all_contained.ensures.each ∙ c.loop-place.invariant.0,
  λ before rest is at.
      let outs : ℕ = c.args.counts.now.out_structs in
      let others : ℕ = c.args.counts.now.structs in
      let place : ℕ = c.loop-place.place in
      let here : place < length c.args.defs.now = c.loop-place-test.true in
      let so_far : List (List ℕ) = rows g.P.StructPath.StructPathLike.id_of outs others (take place c.args.defs.now) in
      let after : List (List ℕ) = replicate (length c.args.defs.now - (place + 1) + rest) [] in
      let long = rows_at g.P.StructPath.StructPathLike.id_of outs others c.args.defs.now place here in
      let both = length-append before so_far in
      let left : length c.args.defs.now - place + rest ≡ suc (length c.args.defs.now - (place + 1) + rest) = omega (arith, here) in
      c.in_ok-add_all_contained.ensures.edges (before ++ so_far) after
      (c.loop-place.invariant.1 before rest is at ∙ ap (λ n. (before ++ so_far) ++ replicate n []) left)
      (omega (arith, both, long, at))
      ∙ ap (λ ids. (before ++ so_far) ++ struct_numbers outs others ids ∷ after)
      (c.as_slice-in-loop-place.ensures.value ∙ c.in_ok-ids.ensures ∙ ap (contained_in g.P.StructPath.StructPathLike.id_of) c.as_slice.ensures)
      ∙ filled before so_far (struct_numbers outs others (contained_in g.P.StructPath.StructPathLike.id_of c.index-defs-place.result.fields)) after
      ∙ ap (λ rs. (before ++ rs) ++ after) (rows_more g.P.StructPath.StructPathLike.id_of outs others c.args.defs.now place c.index-defs-place.result here c.index-defs-place.is),
)
