use Rattle.std.proofs.Common.{◌≡◌, [], length, ap, ◌∙◌, arith}
use Rattle.std.proofs.lemmas.Grind.{common_steps}
use Rattle.hir_borrowing_fields.specs.inside.Places.{ways_to}
use Rattle.hir_borrowing_fields.proofs.PlaceLemmas.{length_places}
use Rattle.hir_borrowing_fields.proofs.places.Places.len.Goals as goal

pub returns : goal.returns
returns c =
    let long = length_places [] c.self.inside.places.items in
    let counted = c.len.ensures in
    let is : c.len.result ≡ length (ways_to c.self.inside.places.items) = grind (arith, common_steps) in
    is ∙ ap length c.self.view_is
