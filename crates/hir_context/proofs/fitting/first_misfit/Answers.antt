use Rattle.std.proofs.Common.{arith, length, map, refl, ap, ◌∙◌}
use Rattle.std.specs.Prelude.{option_map}
use Rattle.std.proofs.lemmas.List.{length-map}
use Rattle.std.proofs.lemmas.Option.{slice_get_read, slice_get-map}
use Rattle.hir_context.proofs.Telling.{all_first, none_fits, one_more, some_told}
use Rattle.hir_context.proofs.fitting.first_misfit.Goals as goal

pub returns-then-is_some : goal.returns-then-is_some
returns-then-is_some g c =
    some_told c.args.census.now g.D.Definition.symbol_at (map g.D.Definition.parts_of c.args.defs.now) c.loop-place.place (g.D.Definition.parts_of c.index-defs-place.result) c.symbol.result
    c.in_ok-unfit.unfit c.symbol.ensures
    (slice_get-map g.D.Definition.parts_of c.args.defs.now c.loop-place.place
    ∙ ap (option_map g.D.Definition.parts_of) (slice_get_read c.args.defs.now (length c.args.defs.now) c.loop-place.place c.index-defs-place.result refl c.loop-place-test.true c.index-defs-place.is))
    c.in_ok-unfit.ensures c.if-is_some.ensures

pub loop-place-preserved : goal.loop-place-preserved
loop-place-preserved g c =
    one_more c.args.census.now g.D.Definition.symbol_at (map g.D.Definition.parts_of c.args.defs.now) c.loop-place.place (g.D.Definition.parts_of c.index-defs-place.result) c.loop-place.invariant
    (slice_get-map g.D.Definition.parts_of c.args.defs.now c.loop-place.place
    ∙ ap (option_map g.D.Definition.parts_of) (slice_get_read c.args.defs.now (length c.args.defs.now) c.loop-place.place c.index-defs-place.result refl c.loop-place-test.true c.index-defs-place.is))
    (none_fits c.args.census.now c.symbol.result (g.D.Definition.parts_of c.index-defs-place.result) c.in_ok-unfit.unfit c.in_ok-unfit.ensures c.if-is_some.ensures)

pub returns : goal.returns
returns g c =
    let over = c.loop-place-test.false in
    let long = length-map c.args.defs.now g.D.Definition.parts_of in
    all_first c.args.census.now g.D.Definition.symbol_at (map g.D.Definition.parts_of c.args.defs.now) c.loop-place.place c.loop-place.invariant (omega (arith, over, long))
