use Rattle.std.proofs.Common.{◌≡◌, ◌++◌, ◌∷◌, [], length, map, Some, arith, rules, subst, sym}
use Rattle.hir_ids.specs.declared.ids.TypeId.TheVariants as type
use Rattle.hir_skeleton.specs.Lowered.{field_skeleton}
use Rattle.hir_borrowing_fields.specs.inside.Places.{steps_at, steps_to}
use Rattle.hir_borrowing_fields.specs.inside.Walks.{GoesOn, behind, named_field, named_fields_in, step_into, walked_struct, walked_type}
use Rattle.hir_borrowing_fields.proofs.BareLemmas.{none_whatever}
use Rattle.hir_borrowing_fields.proofs.FittingLemmas.{context_fits}
use Rattle.hir_borrowing_fields.proofs.WalkLemmas.{fields_taken, found_nothing, found_struct, goes_behind, goes_on}
use Rattle.hir_borrowing_fields.proofs.walk.+leaves.Goals as goal

pub add_fields-loop-number-preserved : goal.add_fields-loop-number-preserved
add_fields-loop-number-preserved t c =
    let f = walked_type c.args.tcx.now.definitions c.args.levels c.args.args.now in
    goes_on named_field f c.args.fields.now c.loop-number.number c.index-fields-number.result c.loop-number-test.true c.index-fields-number.is 0 c.loop-number.number (omega arith) c.args.tcx.now.definitions c.args.walk.now c.loop-number.walk c.add_part.new.walk
    (steps_at c.args.walk.now.found.places (Some c.args.at)) c.loop-number.invariant
    (goes_behind c.args.tcx.now.definitions c.args.walk.now c.loop-number.walk c.add_part.new.walk c.args.at (step_into (c.loop-number.number, named_field c.index-fields-number.result)) (f (field_skeleton c.index-fields-number.result.ty)) c.requires.within c.loop-number.invariant.finds.places
    (subst (λ s. GoesOn c.args.tcx.now.definitions c.loop-number.walk c.add_part.new.walk (map (behind (steps_at c.loop-number.walk.found.places (Some c.args.at) ++ step_into (c.loop-number.number, named_field c.index-fields-number.result) ∷ [])) (f s))) c.type_part.ensures c.in_ok-add_part.ensures))

pub add_fields_of-add_fields-requires : goal.add_fields_of-add_fields-requires
add_fields_of-add_fields-requires t c =
    (search rules, (c.requires.within, (fields_taken c.args.tcx.now.definitions (type.Struct c.args.path.now.tcx_id) (length c.args.args.now) c.resolve_struct-def.result.now c.as_slice.result.now (context_fits c.args.tcx.now) c.requires.takes c.resolve_struct-def.ensures c.as_slice.ensures, c.requires.bare)))

pub add_struct_given-returns-then-len-before : goal.add_struct_given-returns-then-len-before
add_struct_given-returns-then-len-before t c = record {
  finds =
      let some = c.if-levels-eq0.false in
      found_struct c.args.tcx.now.definitions c.args.walk.now.found c.add_place.new.self c.add_fields_of.new.walk.found c.in_ok-at.at (steps_to c.args.walk.now.found.places c.args.place.now) c.args.levels (type.Struct c.args.path.now.tcx_id) c.args.args.now
      (omega (arith, some)) c.in_ok-at.ensures.place c.in_ok-at.ensures.places c.in_ok-at.ensures.leaves c.in_ok-add_fields_of.ensures.finds;
  bare = c.in_ok-add_fields_of.ensures.bare;
}

pub add_struct_given-note_bare-requires-clause-bare :
    goal.add_struct_given-note_bare-requires-clause-bare
add_struct_given-note_bare-requires-clause-bare t c = λ other.
    let some = c.if-levels-eq0.false in
    let few = c.if-len-before.false in
    let counted = c.len.ensures in
    let before = c.len-before.ensures in
    subst (λ place. walked_struct c.args.tcx.now.definitions c.args.levels (type.Struct place) other ≡ []) (sym c.index.ensures)
    (none_whatever (named_fields_in c.args.tcx.now.definitions) c.args.levels (type.Struct c.args.path.now.tcx_id) c.args.args.now other
    (found_nothing c.args.walk.now.found c.add_fields_of.new.walk.found (steps_to c.args.walk.now.found.places c.args.place.now) (walked_struct c.args.tcx.now.definitions c.args.levels (type.Struct c.args.path.now.tcx_id) c.args.args.now)
    (found_struct c.args.tcx.now.definitions c.args.walk.now.found c.add_place.new.self c.add_fields_of.new.walk.found c.in_ok-at.at (steps_to c.args.walk.now.found.places c.args.place.now) c.args.levels (type.Struct c.args.path.now.tcx_id) c.args.args.now
    (omega (arith, some)) c.in_ok-at.ensures.place c.in_ok-at.ensures.places c.in_ok-at.ensures.leaves c.in_ok-add_fields_of.ensures.finds)
    (omega (arith, few, counted, before))))

pub add_struct_given-returns : goal.add_struct_given-returns
add_struct_given-returns t c = record {
  finds =
      let some = c.if-levels-eq0.false in
      found_struct c.args.tcx.now.definitions c.args.walk.now.found c.add_place.new.self c.add_fields_of.new.walk.found c.in_ok-at.at (steps_to c.args.walk.now.found.places c.args.place.now) c.args.levels (type.Struct c.args.path.now.tcx_id) c.args.args.now
      (omega (arith, some)) c.in_ok-at.ensures.place c.in_ok-at.ensures.places c.in_ok-at.ensures.leaves c.in_ok-add_fields_of.ensures.finds;
  bare = c.in_ok-note_bare.ensures;
}
