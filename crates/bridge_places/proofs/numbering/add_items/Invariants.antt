use Rattle.std.proofs.Common.{◌≡◌, ◌++◌, drop}
use Rattle.bridge_places.specs.inside.Numbering.{entries_from, with_places}
use Rattle.bridge_places.proofs.numbering.add_items.Given as goal

-- what is still to come makes of what there is what all of them make of what there was
abbrev pub invariant-loop-number : goal.invariant-loop-number
invariant-loop-number l =
    (with_places l.«module» l.number (drop l.number l.items) l.places ≡ with_places l.«module» 0 l.items l.fn.places)
    × (l.entries ++ entries_from l.«module» l.number (drop l.number l.items) l.places ≡ entries_from l.«module» 0 l.items l.fn.places)
