use Rattle.std.proofs.Common.{◌≡◌, ◌+◌, [], length, sym, subst, ap, ◌∙◌, arith}
use Rattle.hir_borrowing_fields.specs.inside.Places.{AreRooted, IsPlaceIn, ways_to}
use Rattle.hir_borrowing_fields.proofs.PlaceLemmas.{length_places, places_more, rooted_in, rooted_more, with_way_to}
use Rattle.hir_borrowing_fields.proofs.places.Places.add.Goals as goal

pub invariant_of-self-2 : goal.invariant_of-self-2
invariant_of-self-2 c =
    let places = c.self.inside.places.items in
    let long = length_places [] places in
    let counted : length (ways_to places) ≡ 0 + length places = omega (arith, long) in
    subst (AreRooted 0) (sym c.in_ok-push.ensures.items)
    (rooted_more 0 places c.args.place.now c.self.invariant
    (rooted_in (ways_to places) (0 + length places) c.args.place.now.parent counted
    (subst (λ ways. IsPlaceIn ways c.args.place.now.parent) (sym c.self.view_is) c.requires)))

pub returns-clause-ok : goal.returns-clause-ok
returns-clause-ok c =
    ap ways_to c.in_ok-push.ensures.items
    ∙ places_more [] c.self.inside.places.items c.args.place.now
    ∙ ap (λ ways. with_way_to ways c.args.place.now) c.self.view_is
