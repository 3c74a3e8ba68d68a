use Rattle.std.proofs.Common.{◌≡◌, ◌++◌, ◌∷◌, [], List, ℕ, Option, Some, slice_index_or, refl, sym, ap, ◌∙◌, subst, append_assoc, arith}
use Rattle.std.specs.Prelude.{codes}
use Rattle.std.proofs.lemmas.Grind.{put_three}
use Rattle.std.proofs.lemmas.List.{length-map}
use Rattle.bridge_decl.specs.Names.{joined}
use Rattle.hir_borrowing_fields.specs.inside.Places.{HasStepIn, Step, own_step, step_names, steps_at}
use Rattle.hir_borrowing_fields.proofs.PlaceLemmas.{joined_more, names_end}
use Rattle.hir_borrowing_fields.proofs.places.Places.+put_names.Goals as goal

-- the text of a place in another
text_behind : (ways : List (List Step)) (inside : Option ℕ) (parent : ℕ) (here : List Step) (step : Step) (text : List ℕ) → inside ≡ Some parent → HasStepIn ways inside → here ≡ steps_at ways inside ++ step ∷ [] → text ≡ step.name
    → joined (codes ".") (step_names (slice_index_or ways parent [])) ++ (codes "." ++ text) ≡ joined (codes ".") (step_names here)
text_behind ways inside parent here step text is stepped ends same =
    let front = slice_index_or ways parent [] in
    let some = subst (HasStepIn ways) is stepped in
    let long = length-map front (λ s. s.name) in
    ap (λ t. joined (codes ".") (step_names front) ++ (codes "." ++ t)) same
    ∙ sym (append_assoc (joined (codes ".") (step_names front)) (codes ".") step.name)
    ∙ joined_more (step_names front) step.name (omega (arith, some, long))
    ∙ ap (joined (codes ".")) (sym (names_end here front step (ends ∙ ap (λ at. steps_at ways at ++ step ∷ []) is)))

pub returns-in_ok-write_str-in-Some : goal.returns-in_ok-write_str-in-Some
returns-in_ok-write_str-in-Some g t c = λ plain ok.
    let front = c.in_ok-put_names-in-Some.ensures plain refl in
    let dot = c.in_ok-write_str-in-Some.ensures.writes front.plain refl in
    let own = c.write_str-in-Some.ensures.writes dot.plain ok in
    put_three _ _ _ _ _ _ _ _ _ front dot own
    (text_behind c.args.self.now c.place-here.result.parent c.in-Some.parent (slice_index_or c.args.self.now c.args.place []) (own_step c.place-here.result) c.as_str.result.now c.in-Some.is c.place-here.ensures.stepped c.place-here.ensures.steps c.as_str.ensures.value)
