-- Where a search for the placeholder finds it, and that it stands at one place where it stands at most once.
use Rattle.std.proofs.Common.{◌≡◌, ◌≢◌, ℕ, suc, ◌<◌, ◌≤◌, Bool, true, false, cond, List, [], ◌∷◌, ◌++◌, length, take, drop, ◌↔◌}
use Rattle.std.proofs.Common.{inl, inr, refl, sym, subst, ap, ◌∙◌, arith, append_assoc, take-append-drop}
use Rattle.std.specs.List.{starts_with}
use Rattle.std.specs.Prelude.{nat_eq}
use Rattle.std.specs.Str.Pattern.{FindsText, LacksTextAt, SplitsAroundMatch}
use Rattle.std.specs.Str.Iter.{HasSubslice}
use Rattle.std.proofs.lemmas.Bool.{cases_Bool}
use Rattle.std.proofs.lemmas.Bool.Decides.{Decides-eqb}
use Rattle.std.proofs.lemmas.Slice.Eq.{starts_is}
use Rattle.bridge_text.specs.Rename.{placeholder, placeholder_count, IsFilled}

abbrev begins : List ℕ → Bool
begins text = starts_with nat_eq text placeholder

begins_not : (text : List ℕ) → LacksTextAt placeholder text 0 → begins text ≡ false
begins_not text lacks =
    elim (cases_Bool (begins text)) [
      | inl t ↦ absurd (lacks _ ((starts_is Decides-eqb text placeholder (begins text) refl).0 t))
      | inr f ↦ f
    ]

count-here : (back : List ℕ) → placeholder_count (placeholder ++ back) ≡ suc (placeholder_count back)
count-here back = refl

rises : (b : Bool) (n : ℕ) → n ≤ cond b (suc n) n
rises true n = omega arith
rises false n = omega arith

count-later : (front rest : List ℕ) → placeholder_count rest ≤ placeholder_count (front ++ rest)
count-later [] rest = omega arith
count-later (c ∷ front) rest =
    let here = rises (begins (c ∷ (front ++ rest))) (placeholder_count (front ++ rest)) in
    let later = count-later front rest in
    omega arith

-- the first place that a search finds
pub count-first : (front rest : List ℕ) → ((i : ℕ) → i < length front → LacksTextAt placeholder
    (front ++ (placeholder ++ rest)) i)
    → placeholder_count (front ++ (placeholder ++ rest)) ≡ suc (placeholder_count rest)
count-first [] rest lacks = count-here rest
count-first (c ∷ front) rest lacks =
    rw (begins_not (c ∷ (front ++ (placeholder ++ rest))) (lacks 0 (omega arith)))
    (count-first front rest (λ i l. lacks (suc i) (omega arith)))

pub count-none : (text : List ℕ) → ((front back : List ℕ) → text ≢ front ++ (placeholder ++ back)) → placeholder_count text ≡ 0
count-none [] none = refl
count-none (c ∷ cs) none =
    rw (begins_not (c ∷ cs) (λ rest e. none [] rest e)) (count-none cs (λ front back e. none (c ∷ front) back
    (ap (λ x. c ∷ x) e)))

stands : (text : List ℕ) → 0 < placeholder_count text → HasSubslice text placeholder
stands [] some = absurd (omega (arith, some))
stands (c ∷ cs) some =
    elim (cases_Bool (begins (c ∷ cs))) [
      | inl t ↦ ([], drop 3 (c ∷ cs), (starts_is Decides-eqb (c ∷ cs) placeholder (begins (c ∷ cs)) refl).0 t)
      | inr f ↦ let later = stands cs (rw f at some) in (c ∷ later.0, later.1, ap (λ x. c ∷ x) later.2)
    ]

pub count-positive : (text : List ℕ) → (0 < placeholder_count text) ↔ HasSubslice text placeholder
count-positive text = (
  stands text,
  λ h.
      let later = count-later h.0 (placeholder ++ h.1) in
      let here = count-here h.1 in
      rw h.2 (omega arith),
)

-- where it stands at the front and further on, it stands twice
front_only : (b : List ℕ) (c : ℕ) (front back : List ℕ) → placeholder ++ b ≡ c ∷ (front ++ (placeholder ++ back))
    → placeholder_count (placeholder ++ b) ≤ 1 → ⊥
front_only b c front back e once =
    let rest : 48 ∷ (125 ∷ b) ≡ front ++ (placeholder ++ back) = cc in
    let same = ap placeholder_count rest in
    let later = count-later front (placeholder ++ back) in
    let here = count-here back in
    omega arith

-- two places of a text in which the placeholder stands at most once are one
one_place : (f b front back : List ℕ) → f ++ (placeholder ++ b) ≡ front ++ (placeholder ++ back)
    → placeholder_count (f ++ (placeholder ++ b)) ≤ 1 → (f ≡ front) × (b ≡ back)
one_place [] b [] back e once = (refl, cc)
one_place [] b (c ∷ front) back e once = absurd (front_only b c front back e once)
one_place (c ∷ f) b [] back e once = absurd (front_only back c f b (sym e) (subst (λ t. placeholder_count t ≤ 1) e once))
one_place (c ∷ f) b (d ∷ front) back e once =
    let rest : f ++ (placeholder ++ b) ≡ front ++ (placeholder ++ back) = cc in
    let fewer = rises (begins (c ∷ (f ++ (placeholder ++ b)))) (placeholder_count (f ++ (placeholder ++ b))) in
    let same = one_place f b front back rest (omega arith) in
    let first : c ≡ d = cc in
    let front_same = same.0 in
    (cc, same.1)

-- the text round the place that was found, with the name between
pub filled : (pattern name f b : List ℕ) → pattern ≡ f ++ (placeholder ++ b) → placeholder_count pattern ≤ 1
    → IsFilled pattern name (f ++ name ++ b)
filled pattern name f b e once = record {
  around = λ front back g.
      let same = one_place f b front back (sym e ∙ g ∙ append_assoc front placeholder back)
      (subst (λ t. placeholder_count t ≤ 1) e once) in
      let first = same.0 in
      let last = same.1 in
      cc;
  whole = λ none.
      let some = (count-positive pattern).1 (f, b, e) in
      absurd (omega arith);
}

-- a pattern in which no place was found
pub unfilled : (pattern name : List ℕ) → ((front back : List ℕ) → pattern ≢ front ++ (placeholder ++ back))
    → IsFilled pattern name pattern
unfilled pattern name none = record {
  around = λ front back e. absurd (none front back (e ∙ append_assoc front placeholder back));
  whole = λ _. refl;
}

-- what a cut at the first place says
pub cut_whole : (pattern front back : List ℕ) → SplitsAroundMatch (FindsText placeholder) pattern front back
    → pattern ≡ front ++ (placeholder ++ back)
cut_whole pattern front back (i, j, found, f, b, up, front_long, back_long) =
    sym (take-append-drop i pattern) ∙ rw (f, b) (ap (λ l. take i pattern ++ l) found.1.split)

pub cut_count : (pattern front back : List ℕ) → SplitsAroundMatch (FindsText placeholder) pattern front back
    → placeholder_count pattern ≡ suc (placeholder_count back)
cut_count pattern front back cut =
    let whole = cut_whole pattern front back cut in
    let lacks : (i : ℕ) → i < length front → LacksTextAt placeholder (front ++ (placeholder ++ back)) i =
    λ i l. subst (λ t. LacksTextAt placeholder t i) whole (cut.2.0 i (omega arith)) in
    ap placeholder_count whole ∙ count-first front back lacks
