-- Definitions of which the last is noted first.
use Rattle.std.proofs.Common.{◌≡◌, ℕ, suc, List, [], ◌∷◌, ◌++◌, Option, Some, None, length, slice_get, option_map, refl, ap, sym, ◌∙◌}
use Rattle.hir_definitions.specs.declared.usage.TypingUseInfo.{TypingUseInfo}
use Rattle.hir_usage_notes.specs.Notes.{each_used}
use Rattle.hir_usage_notes.specs.inside.Noting.{set_some, used_at}

-- behind the first, at the place below
set_behind : {A : Type 0} (n : ℕ) (x : A) (xs : List A) (y : Option A) → set_some (suc n) (x ∷ xs) y ≡ x ∷ set_some n xs y
set_behind n x xs None = refl
set_behind n x xs (Some y) = refl

used_behind :
    {D : Type 0} (note : TypingUseInfo → D → D) (n : ℕ) (u : TypingUseInfo) (d : D) (ds : List D)
    → used_at note (suc n) u (d ∷ ds) ≡ d ∷ used_at note n u ds
used_behind note n u d ds = set_behind n d ds (option_map (note u) (slice_get ds n))

-- the last use may be noted before the others
pub last_first :
    {D : Type 0} (note : TypingUseInfo → D → D) (us : List TypingUseInfo) (u : TypingUseInfo) (ds : List D)
    → each_used note (us ++ u ∷ []) ds ≡ each_used note us (used_at note (length us) u ds)
last_first note [] u [] = refl
last_first note [] u (d ∷ ds) = refl
last_first note (v ∷ us) u [] = refl
last_first note (v ∷ us) u (d ∷ ds) =
    ap (λ rest. note v d ∷ rest) (last_first note us u ds)
    ∙ sym (ap (λ all. each_used note (v ∷ us) all) (used_behind note (length us) u d ds))
