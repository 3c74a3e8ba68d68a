use Rattle.std.proofs.Common.{◌≡◌, ◌<◌, [], List, ℕ, Some, get_or, slice_get, length, refl, ap, subst, arith}
use Rattle.std.proofs.lemmas.Grind.{common_steps}
use Rattle.std.proofs.lemmas.Option.{slice_get_read}
use Rattle.hir_borrowing_fields.specs.inside.Places.{Step, steps_to, ways_to}
use Rattle.hir_borrowing_fields.specs.declared.places.Place.{Place}
use Rattle.hir_borrowing_fields.proofs.PlaceLemmas.{length_places, rooted_read, stepped_parent, ways_read, within_before}
use Rattle.hir_borrowing_fields.proofs.places.Places.place.Goals as goal

within : (places : List Place) (ways : List (List Step)) (k : ℕ) → ways_to places ≡ ways → k < length ways → k < length places
within places ways k is below =
    let long = length_places [] places in
    let same = ap length is in
    omega (arith, long, same, below)

there : (places : List Place) (ways : List (List Step)) (k : ℕ) (place : Place) → ways_to places ≡ ways → k < length ways → place ≡ get_or places k place → slice_get places k ≡ Some place
there places ways k place is below read = slice_get_read places (length places) k place refl (within places ways k is below) read

pub index-requires : goal.index-requires
index-requires c =
    let below = within c.self.inside.places.items c.args.self.now c.args.place c.self.view_is c.requires in
    grind (arith, common_steps)

pub returns-clause-rooted : goal.returns-clause-rooted
returns-clause-rooted c =
    rooted_read c.self.inside.places.items c.args.place c.index.result.now c.self.invariant
    (there c.self.inside.places.items c.args.self.now c.args.place c.index.result.now c.self.view_is c.requires c.index.ensures)

pub returns-clause-within : goal.returns-clause-within
returns-clause-within c =
    within_before c.args.self.now c.args.place c.index.result.now.parent c.requires
    (rooted_read c.self.inside.places.items c.args.place c.index.result.now c.self.invariant
    (there c.self.inside.places.items c.args.self.now c.args.place c.index.result.now c.self.view_is c.requires c.index.ensures))

pub returns-clause-steps : goal.returns-clause-steps
returns-clause-steps c =
    subst (λ ways. get_or ways c.args.place [] ≡ steps_to ways c.index.result.now) c.self.view_is
    (ways_read c.self.inside.places.items c.args.place c.index.result.now c.self.invariant
    (there c.self.inside.places.items c.args.self.now c.args.place c.index.result.now c.self.view_is c.requires c.index.ensures))

pub returns-clause-stepped : goal.returns-clause-stepped
returns-clause-stepped c =
    let places = c.self.inside.places.items in
    stepped_parent places c.args.self.now c.args.place c.index.result.now.parent c.self.view_is c.self.invariant (within places c.args.self.now c.args.place c.self.view_is c.requires)
    (rooted_read places c.args.place c.index.result.now c.self.invariant (there places c.args.self.now c.args.place c.index.result.now c.self.view_is c.requires c.index.ensures))
