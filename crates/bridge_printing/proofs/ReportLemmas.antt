-- Lists that are printed one element after another, and places that are lent.
use Rattle.std.proofs.Common.{◌≡◌, ℕ, ◌+◌, ◌<◌, List, [], ◌∷◌, ◌++◌, length, take, get_or, Option, sym, ap, ◌∙◌}
use Rattle.std.specs.List.{flat_map}
use Rattle.std.proofs.lemmas.List.{flat_map_more, take_more}
use Rattle.hir_reports.specs.Places.{context_text}
use Rattle.hir_reports.specs.Store.{at_place}
use Rattle.hir_reports.specs.declared.places.ErrorContext.{ErrorContext}

-- one more element of a list
pub one_more : {A B : Type 0} (f : B → List A) (xs : List B) (i : ℕ) (x : B) → i < length xs → x ≡ get_or xs i x
    → flat_map f (take i xs) ++ f x ≡ flat_map f (take (i + 1) xs)
one_more f xs i x within is =
    flat_map_more f [] (take i xs) x ∙ ap (λ y. flat_map f (take i xs ++ y ∷ [])) is ∙ sym (ap (flat_map f) (take_more xs i x within))

-- a place by its parts
pub place_same : (context : ErrorContext) {path : List (List ℕ)} {item : List ℕ} {subitem : Option (List ℕ)}
    → path ≡ context.«module» → item ≡ context.item → subitem ≡ context.subitem → context_text (at_place path item subitem) ≡ context_text context
place_same context {item = item} {subitem = subitem} same_path same_item same_subitem =
    ap (λ p. context_text (at_place p item subitem)) same_path ∙ ap (λ i. context_text (at_place context.«module» i subitem)) same_item
    ∙ ap (λ s. context_text (at_place context.«module» context.item s)) same_subitem
