use Rattle.std.proofs.Common.{◌∷◌, [], ap, ◌∙◌}
use Rattle.hir_borrowing_fields.specs.inside.Findings.{leaves_placed}
use Rattle.hir_borrowing_fields.specs.inside.Places.{steps_to}
use Rattle.hir_borrowing_fields.proofs.FindingLemmas.{leaves_kept}
use Rattle.hir_borrowing_fields.proofs.found.FoundLeaves.add_place.Goals as goal

pub returns-clause-leaves : goal.returns-clause-leaves
returns-clause-leaves c =
    ap (λ places. leaves_placed places c.self.inside.leaves.items) c.in_ok-add.ensures.ok
    ∙ leaves_kept c.self.inside.places (steps_to c.self.inside.places c.args.place.now ∷ []) c.self.inside.leaves.items c.self.invariant
    ∙ ap (λ found. found.leaves) c.self.view_is
