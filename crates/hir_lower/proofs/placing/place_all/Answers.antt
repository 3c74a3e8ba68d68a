use Rattle.std.proofs.Common.{◌∷◌, [], length, arith, ap, refl, sym, ◌∙◌}
use Rattle.std.proofs.lemmas.List.{append-nil, length-append}
use Rattle.hir_context.specs.declared.parts.Placed.{Placed}
use Rattle.hir_lower.specs.inside.Parts.{path_of_number}
use Rattle.hir_lower.proofs.PlacingLemmas.{all_placed, module_more, placed_more, taken}
use Rattle.hir_lower.proofs.placing.place_all.Goals as goal

pub loop-def-init : goal.loop-def-init
loop-def-init g c = ([], sym c.from_vec-left.ensures ∙ sym (append-nil c.from_vec-left.result), (c.new-placed.ensures.items, refl))

pub loop-def-smaller : goal.loop-def-smaller
loop-def-smaller g c =
    let here = ap length c.in-Some.ensures in
    let long = length-append c.pop.new.self (c.in-Some.def ∷ []) in
    omega (arith, here, long)

pub loop-def-preserved : goal.loop-def-preserved
loop-def-preserved g c =
    let modules = c.args.env.now in
    let places = c.args.places.now in
    let rest = c.loop-def.invariant.0 in
    let p : Placed g.row.D.Denot = record { def = c.in-Some.def; «module» = c.in_ok-module.module } in
    let path = c.in_ok-module.ensures ∙ ap (path_of_number modules places) c.len.ensures in (
      p ∷ rest,
      taken c.args.defs.items c.loop-def.left c.pop.new.self p rest c.loop-def.invariant.1 c.in-Some.ensures,
      (
        c.in_ok-place_one.ensures ∙ placed_more p rest c.loop-def.placed.items c.loop-def.invariant.2.0,
        module_more modules places p rest c.loop-def.left c.pop.new.self c.in-Some.ensures path c.loop-def.invariant.2.1,
      ),
    )

pub returns : goal.returns
returns g c =
    all_placed c.args.env.now c.args.places.now c.args.defs.items c.loop-def.left c.loop-def.invariant.0 c.loop-def.placed.items c.from_vec.result
    c.loop-def.invariant.1 c.in_default.ensures.0 c.loop-def.invariant.2.0 c.loop-def.invariant.2.1 (c.from_vec.ensures ∙ c.reverse.ensures.items)
