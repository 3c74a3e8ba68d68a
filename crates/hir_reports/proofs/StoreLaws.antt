-- Reports that are added one after another, for loops that tell what their steps find.
use Rattle.std.proofs.Common.{◌≡◌, ℕ, ◌+◌, ◌<◌, List, [], ◌∷◌, ◌++◌, length, take, map, get_or, refl, sym, ap, ◌∙◌}
use Rattle.std.specs.List.{flat_map}
use Rattle.std.proofs.lemmas.List.{append_assoc, map-append, take_more, flat_map_more}
use Rattle.std.proofs.Common.{append-nil}
use Rattle.hir_reports.specs.declared.report.LoweringError.{LoweringError}
use Rattle.hir_reports.specs.Store.{Held, added, told_at}

held_alike : (old new : Held) → new.reports ≡ old.reports → new.place ≡ old.place → new ≡ old
held_alike old new reports place = λ i. record { reports = reports i; place = place i }

pub added_nothing : (held : Held) → held ≡ added held []
added_nothing held = held_alike (added held []) held (sym (append-nil held.reports)) refl

pub added_more : (held : Held) (first second : List LoweringError) → added (added held first) second ≡ added held (first ++ second)
added_more held first second =
    held_alike (added held (first ++ second)) (added (added held first) second)
    (append_assoc held.reports (map (told_at held.place) first) (map (told_at held.place) second)
    ∙ ap (λ l. held.reports ++ l) (sym (map-append (told_at held.place) first second)))
    refl

-- one step more of a loop
pub added_step : {X : Type 0} (told : X → List LoweringError) (start old new : Held) (xs : List X) (i : ℕ) (d : X) → i < length xs
    → old ≡ added start (flat_map told (take i xs)) → new ≡ added old (told (get_or xs i d)) → new ≡ added start (flat_map told (take (i + 1) xs))
added_step told start old new xs i d within before step =
    step ∙ ap (λ held. added held (told (get_or xs i d))) before ∙ added_more start (flat_map told (take i xs)) (told (get_or xs i d))
    ∙ ap (added start) (flat_map_more told [] (take i xs) (get_or xs i d) ∙ ap (flat_map told) (sym (take_more xs i d within)))
