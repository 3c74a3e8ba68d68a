use Rattle.std.proofs.Common.{◌≡◌, drop, length}
use Rattle.bridge_places.specs.inside.Numbering.{with_modules}
use Rattle.bridge_places.proofs.numbering.add_modules.Given as goal

-- the modules that are still to come make of what there is what all of them make of what there was
abbrev pub invariant-loop-number : goal.invariant-loop-number
invariant-loop-number l =
    (with_modules l.modules (drop l.number-index l.order) l.found ≡ with_modules l.modules l.order l.fn.found)
    × (length l.found.catalog.modules ≡ length l.modules)
