-- Uses that are noted one after another.
use Rattle.std.proofs.Common.{◌≡◌, ◌<◌, ◌+◌, ℕ, List, [], ◌∷◌, ◌++◌, length, get_or, take, refl, sym, ap, ◌∙◌}
use Rattle.std.specs.List.{flat_map}
use Rattle.hir_mentions.proofs.Listing.{next_listed}
use Rattle.hir_usage.specs.Tables.{Usages, noted, noted_at}
use Rattle.hir_usage.specs.Uses.{Used, used_id}

-- those of two lists, the first list before the second
pub noted_both : (xs ys : List Used) (t : Usages) → noted (xs ++ ys) t ≡ noted ys (noted xs t)
noted_both [] ys t = refl
noted_both (x ∷ xs) ys t = noted_both xs ys (noted_at (used_id x) x t)

-- those of one part more
pub noted_next :
    {X : Type 0} (f : X → List Used) (xs : List X) (i : ℕ) (x : X) (t now new : Usages)
    → i < length xs → x ≡ get_or xs i x → now ≡ noted (flat_map f (take i xs)) t → new ≡ noted (f x) now
    → new ≡ noted (flat_map f (take (i + 1) xs)) t
noted_next f xs i x t now new within is before then_noted =
    then_noted
    ∙ ap (λ u. noted (f x) u) before
    ∙ sym (noted_both (flat_map f (take i xs)) (f x) t)
    ∙ ap (λ us. noted us t) (next_listed f xs i x within is)
