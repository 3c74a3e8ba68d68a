-- Texts of lists, piece by piece.
use Rattle.std.proofs.Common.{◌≡◌, ℕ, ◌+◌, ◌<◌, Bool, List, [], ◌∷◌, ◌++◌, length, map, take, get_or, Option, Some, None, refl, sym, ap, ◌∙◌, ◌-◌}
use Rattle.std.specs.Prelude.{◌==◌, slice_get, codes, decimal, option_map, IsSome, IfSome}
use Rattle.std.specs.List.{flat_map, join_by}
use Rattle.std.proofs.lemmas.List.{flat_map_more, take_more, length-map}
use Rattle.std.proofs.lemmas.List.Folds.{flat_map-map}
use Rattle.std.proofs.lemmas.Option.{slice_get-map}
use Rattle.hir_life.specs.Environment.{Environment}
use Rattle.hir_life.specs.Naming.{name_or_number, printed_name}
use Rattle.hir_mentions.specs.Mentions.{where_any}
use Rattle.hir_reports.specs.Places.{context_text}
use Rattle.hir_reports.specs.declared.places.ErrorContext.{ErrorContext}
use Rattle.bridge_report.specs.Callables.{Callable}
use Rattle.bridge_report.specs.Page.{list_text, opening}
use Rattle.bridge_page.specs.inside.Printed.{callable_line}

-- a list that is lent
pub listed_same : {A : Type 0} (f : A → List ℕ) (xs ys : List A) (is_empty : Bool) → is_empty ≡ (length xs == 0) → xs ≡ ys
    → opening is_empty ++ join_by f (codes ", ") xs ≡ list_text f ys
listed_same f xs ys is_empty h same = ap (λ b. opening b ++ join_by f (codes ", ") xs) h ∙ ap (list_text f) same

join_map : {A : Type 0} (f : A → List ℕ) (separator : List ℕ) (xs : List A) → join_by f separator xs ≡ join_by (λ text. text) separator (map f xs)
join_map f separator [] = refl
join_map f separator (x ∷ xs) = ap (λ text. f x ++ text) (sym (flat_map-map (λ text. separator ++ text) f xs))

-- a list by the texts of its elements
pub list_map : {A : Type 0} (f : A → List ℕ) (xs : List A) → list_text f xs ≡ list_text (λ text. text) (map f xs)
list_map f xs =
    ap (λ n. opening (n == 0) ++ join_by f (codes ", ") xs) (sym (length-map xs f))
    ∙ ap (λ text. opening (length (map f xs) == 0) ++ text) (join_map f (codes ", ") xs)

-- the name of a lifetime that has none
pub anonymous_text : (e : Environment) (l n count : ℕ) → None ≡ slice_get e.bounds l → n ≡ l → count ≡ length e.bounds
    → codes "anon_" ++ decimal (n - count) ≡ printed_name e l
anonymous_text e l n count none is counted =
    let nameless : slice_get (map (λ b. b.ident) e.bounds) l ≡ None = slice_get-map (λ b. b.ident) e.bounds l ∙ ap (option_map (λ b. b.ident)) (sym none) in
    ap (λ m. codes "anon_" ++ decimal (m - count)) is ∙ ap (λ m. codes "anon_" ++ decimal (l - m)) counted
    ∙ sym (ap (λ name. name_or_number name (l - length e.bounds)) nameless)

-- the line of a callable, by its place
pub line_of : (o : Option Callable) (place : ErrorContext) → IsSome o → IfSome o (λ c. c.place ≡ place)
    → codes "callable " ++ context_text place ++ codes "\n" ≡ where_any callable_line o
line_of None place there is = absurd cc
line_of (Some c) place there is = ap (λ p. codes "callable " ++ context_text p ++ codes "\n") (sym is)
