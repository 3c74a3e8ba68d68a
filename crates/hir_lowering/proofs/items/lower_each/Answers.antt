use Rattle.std.proofs.Common.{◌++◌, [], ap, get_or, ◌∙◌}
use Rattle.std.proofs.lemmas.List.{get_or_default}
use Rattle.std.specs.List.{cons_option}
use Rattle.bridge_ast.specs.declared.place.ItemPlace.{ItemPlace}
use Rattle.hir_lowering.specs.Placing.{made_at, reports_at}
use Rattle.hir_lowering.proofs.WalkLemmas.{holds_both, made_next, told_next}
use Rattle.hir_lowering.proofs.items.lower_each.Goals as goal

pub loop-place-preserved : goal.loop-place-preserved
loop-place-preserved g c =
    let places = c.args.places.now in
    let i = c.loop-place.place-index in
    let none : ItemPlace = record { «module» = 0; item = 0 } in
    let place : ItemPlace = get_or places i none in
    let within = c.loop-place-test.true in
    let is_place = get_or_default places i none place within in (
      (λ it is lends. let so_far = c.loop-place.invariant.0 it is lends in (
        told_next (reports_at it g.K.DefinitionKind.told) places i place _ _ _ within is_place so_far.0 (c.in_ok-one.ensures.told it is lends),
        made_next (made_at it g.K.DefinitionKind.told g.K.DefinitionKind.made) places i place _ _ within is_place so_far.1
            (c.in_ok-keep.ensures ∙ ap (λ one. c.loop-place.made.items ++ cons_option one []) (c.in_ok-one.ensures.made it is lends)),
      )),
      holds_both c.args.errors.now c.loop-place.errors c.lower_at.new.errors c.loop-place.invariant.1 c.in_ok-one.ensures.kept,
    )
