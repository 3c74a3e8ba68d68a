-- Lines that are added one after another.
use Rattle.std.proofs.Common.{◌≡◌, ℕ, ◌+◌, ◌<◌, List, [], ◌∷◌, ◌++◌, length, take, map, get_or, refl, sym, ap, ◌∙◌, arith}
use Rattle.std.specs.List.{flat_map}
use Rattle.std.proofs.lemmas.List.{append_assoc, append-nil, length-append, take_more, flat_map_more, map_more}
use Rattle.std.proofs.lemmas.Grind.{flat_map-append}
use Rattle.hir_docs.specs.Urls.{BaseUrls}
use Rattle.bridge_links.specs.LinkLines.{Lines, PlacedLink, link_line, with_links}
use Rattle.bridge_links.specs.inside.Pushing.{with_link}

lines_alike : (old new : Lines) → new.text ≡ old.text → new.count ≡ old.count → new ≡ old
lines_alike old new text count = λ i. record { text = text i; count = count i }

pub with_none : (urls : BaseUrls) (lines : Lines) → lines ≡ with_links urls lines []
with_none urls lines = lines_alike (with_links urls lines []) lines (sym (append-nil lines.text)) (omega arith)

pub with_one : (urls : BaseUrls) (lines : Lines) (link : PlacedLink) → with_link urls lines link ≡ with_links urls lines (link ∷ [])
with_one urls lines link =
    lines_alike (with_links urls lines (link ∷ [])) (with_link urls lines link)
    (ap (λ l. lines.text ++ l) (sym (append-nil (link_line urls link)))) refl

pub with_more : (urls : BaseUrls) (lines : Lines) (first second : List PlacedLink)
    → with_links urls (with_links urls lines first) second ≡ with_links urls lines (first ++ second)
with_more urls lines first second =
    lines_alike (with_links urls lines (first ++ second)) (with_links urls (with_links urls lines first) second)
    (append_assoc lines.text (flat_map (link_line urls) first) (flat_map (link_line urls) second)
    ∙ ap (λ l. lines.text ++ l) (sym (flat_map-append (link_line urls) first second)))
    (omega (arith, length-append first second))

-- one step more of a loop
pub with_step : {X : Type 0} (urls : BaseUrls) (links : X → List PlacedLink) (start old new : Lines) (xs : List X) (i : ℕ) (d : X) → i < length xs
    → old ≡ with_links urls start (flat_map links (take i xs)) → new ≡ with_links urls old (links (get_or xs i d))
    → new ≡ with_links urls start (flat_map links (take (i + 1) xs))
with_step urls links start old new xs i d within before step =
    step ∙ ap (λ lines. with_links urls lines (links (get_or xs i d))) before
    ∙ with_more urls start (flat_map links (take i xs)) (links (get_or xs i d))
    ∙ ap (with_links urls start) (flat_map_more links [] (take i xs) (get_or xs i d) ∙ ap (flat_map links) (sym (take_more xs i d within)))

pub with_step_one : {X : Type 0} (urls : BaseUrls) (link : X → PlacedLink) (start old new : Lines) (xs : List X) (i : ℕ) (d : X) → i < length xs
    → old ≡ with_links urls start (map link (take i xs)) → new ≡ with_link urls old (link (get_or xs i d))
    → new ≡ with_links urls start (map link (take (i + 1) xs))
with_step_one urls link start old new xs i d within before step =
    step ∙ with_one urls old (link (get_or xs i d)) ∙ ap (λ lines. with_links urls lines (link (get_or xs i d) ∷ [])) before
    ∙ with_more urls start (map link (take i xs)) (link (get_or xs i d) ∷ [])
    ∙ ap (with_links urls start) (sym (map_more link xs i d within))
