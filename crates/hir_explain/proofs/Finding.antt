-- A search from one lifetime to the next.
use Rattle.std.proofs.Common.{◌≡◌, ◌≢◌, ℕ, false, is_some, MatchOption, ◌<◌, ◌≤◌, ◌↔◌, inl, inr, Option, Some, None, List, [], ◌∷◌, ◌++◌, length, get_or, set, refl, sym, ◌∙◌, ap, subst, arith, get_or-set_other, get_or-set_same, length-append}
use Rattle.std.specs.List.{Contains}
use Rattle.std.proofs.Math.ListN.{get_or-append}
use Rattle.std.proofs.Math.Seq.{get_or-append_seam}
use Rattle.std.proofs.lemmas.List.Elements.{Contains-get_or, Contains-push, Contains-push_cases}
use Rattle.std.proofs.lemmas.Grind.{get_or_default_zero}
use Rattle.std.proofs.lemmas.Bool.{cases_lt, cases_eq, false≢true}
use Rattle.hir_life.specs.Environment.{Environment, longer_of}
use Rattle.hir_life.specs.Listing.{IsOnceEach}
use Rattle.hir_life.specs.Outlives.{Direct}
use Rattle.hir_life.proofs.Distinct.{distinct_below}
use Rattle.hir_life.proofs.Marking.{apart_more}
use Rattle.hir_explain.specs.inside.Searching.{Found, IsBoundAt, IsFound, ComesFrom, HasReached}

-- a lifetime has a place exactly where it stands there
abbrev pub Placed : List ℕ → List (Option ℕ) → Type 0
Placed order places = (l j : ℕ) → ((get_or places l None ≡ Some j) ↔ ((j < length order) × (get_or order j 0 ≡ l)))

one_place : (o : Option ℕ) (i j : ℕ) → o ≡ Some i → o ≡ Some j → i ≡ j
one_place o i j p q = cc

-- no lifetime is reached twice
pub placed_once : (order : List ℕ) (places : List (Option ℕ)) → Placed order places → IsOnceEach order
placed_once order places placed i j before within same =
    let here = (placed (get_or order j 0) i).1 (omega arith, same) in
    let there = (placed (get_or order j 0) j).1 (within, refl) in
    let e : i ≡ j = one_place _ i j here there in
    omega (arith, e, before)

-- there are no more than there are lifetimes
pub found_most :
    (order : List ℕ) (places : List (Option ℕ)) (n : ℕ) → Placed order places → ((k : ℕ) → Contains order k → k < n)
    → length order ≤ n
found_most order places n placed within = distinct_below order n (placed_once order places placed) within

pub within_more :
    (order : List ℕ) (l n : ℕ) → l < n → ((k : ℕ) → Contains order k → k < n) → (k : ℕ) → Contains (order ++ l ∷ []) k → k < n
within_more order l n below within k h =
    elim (Contains-push_cases order l k h) [
      | inl old ↦ within k old
      | inr e ↦ subst (λ x. x < n) e below
    ]

-- there is room for one more
pub found_room :
    (order : List ℕ) (places : List (Option ℕ)) (l n : ℕ) → Placed order places → ((k : ℕ) → Contains order k → k < n)
    → l < n → (Contains order l → ⊥) → length order < n
found_room order places l n placed within below fresh =
    let most : length (order ++ l ∷ []) ≤ n =
    distinct_below (order ++ l ∷ []) n (apart_more order l fresh (placed_once order places placed)) (within_more order l n below within) in
    omega (arith, most, length-append order (l ∷ []))

-- a lifetime that was not reached gets the next place
pub placed_more :
    (order : List ℕ) (places : List (Option ℕ)) (l : ℕ) → Placed order places → l < length places
    → (Contains order l → ⊥) → Placed (order ++ l ∷ []) (set places l (Some (length order)))
placed_more order places l placed within fresh k j = (
  λ h.
      elim (cases_eq k l) [
        | inl e ↦
            let at : Some (length order) ≡ Some j =
            sym (get_or-set_same places l (Some (length order)) None within) ∙ subst (λ x. get_or (set places l (Some (length order))) x None ≡ Some j) e h in
            let last : length order ≡ j = cc in (
              omega (arith, last, length-append order (l ∷ [])),
              subst (λ x. get_or (order ++ l ∷ []) x 0 ≡ k) last (get_or-append_seam order l [] 0 ∙ sym e),
            )
        | inr ne ↦
            let old = (placed k j).0 (sym (get_or-set_other places l k (Some (length order)) None ne) ∙ h) in (
              omega (arith, old.0, length-append order (l ∷ [])),
              get_or-append order (l ∷ []) 0 j old.0 ∙ old.1,
            )
      ],
  λ h.
      elim (cases_lt j (length order)) [
        | inl below ↦
            let here : get_or order j 0 ≡ k = sym (get_or-append order (l ∷ []) 0 j below) ∙ h.1 in
            let ne : k ≢ l = λ e. fresh (subst (λ x. Contains order x) (here ∙ e) (Contains-get_or order j 0 below)) in
            get_or-set_other places l k (Some (length order)) None ne ∙ (placed k j).1 (below, here)
        | inr above ↦
            let last : length order ≡ j = omega (arith, h.0, length-append order (l ∷ [])) in
            let e : l ≡ k = sym (get_or-append_seam order l [] 0) ∙ subst (λ x. get_or (order ++ l ∷ []) x 0 ≡ k) (sym last) h.1 in
            subst (λ x. get_or (set places l (Some (length order))) x None ≡ Some j) e
            (get_or-set_same places l (Some (length order)) None within ∙ ap (λ x. Some x) last)
      ],
)

-- it leads to the one from which it was reached
pub found_more :
    (e : Environment) (order origins : List ℕ) (l origin : ℕ)
    → IsFound (record { environment = e; reached = order; origins = origins }) → l < e.count
    → (0 < length order → IsBoundAt (record { environment = e; reached = order; origins = origins }) l origin)
    → IsFound (record { environment = e; reached = order ++ l ∷ []; origins = origins ++ origin ∷ [] })
found_more e order origins l origin found below bound =
    record {
      parallel = omega (arith, found.parallel, length-append order (l ∷ []), length-append origins (origin ∷ []));
      leads = λ j later within.
          elim (cases_lt j (length order)) [
            | inl old ↦
                let was = found.leads j later old in
                let same : get_or (origins ++ origin ∷ []) j 0 ≡ get_or origins j 0 =
                get_or-append origins (origin ∷ []) 0 j (omega (arith, old, found.parallel)) in
                subst
                (λ p. ComesFrom (record { environment = e; reached = order ++ l ∷ []; origins = origins ++ origin ∷ [] }) j p)
                (sym same)
                (record {
                  earlier = was.earlier;
                  direct =
                      subst (λ x. Direct (longer_of e) x (get_or (order ++ l ∷ []) (get_or origins j 0) 0))
                      (sym (get_or-append order (l ∷ []) 0 j old))
                      (subst (λ x. Direct (longer_of e) (get_or order j 0) x)
                      (sym (get_or-append order (l ∷ []) 0 (get_or origins j 0) (omega (arith, was.earlier, old))))
                      was.direct);
                })
            | inr new ↦
                let last : length order ≡ j = omega (arith, within, length-append order (l ∷ [])) in
                let to = bound (omega (arith, last, later)) in
                let same : get_or (origins ++ origin ∷ []) j 0 ≡ origin =
                subst (λ x. get_or (origins ++ origin ∷ []) x 0 ≡ origin) (found.parallel ∙ last) (get_or-append_seam origins origin [] 0) in
                subst
                (λ p. ComesFrom (record { environment = e; reached = order ++ l ∷ []; origins = origins ++ origin ∷ [] }) j p)
                (sym same)
                (record {
                  earlier = omega (arith, to.within, last);
                  direct =
                      subst (λ x. Direct (longer_of e) x (get_or (order ++ l ∷ []) origin 0))
                      (sym (subst (λ x. get_or (order ++ l ∷ []) x 0 ≡ l) last (get_or-append_seam order l [] 0)))
                      (subst (λ x. Direct (longer_of e) l x) (sym (get_or-append order (l ∷ []) 0 origin to.within)) to.direct);
                })
          ];
      within = within_more order l e.count below found.within;
    }

-- a lifetime that was reached is the environment's
pub found_within : (f : Found) (j : ℕ) → IsFound f → j < length f.reached → get_or f.reached j 0 < f.environment.count
found_within f j found within = found.within (get_or f.reached j 0) (Contains-get_or f.reached j 0 within)

-- a lifetime that stands at a place was reached
pub stands_reached : (order : List ℕ) (j l : ℕ) → j < length order → get_or order j 0 ≡ l → Contains order l
stands_reached order j l within e = subst (λ x. Contains order x) e (Contains-get_or order j 0 within)

-- a lifetime that was read at a place is the environment's
pub read_within :
    (f : Found) (j item : ℕ) → IsFound f → j < length f.reached → item ≡ get_or f.reached j item → item < f.environment.count
read_within f j item found within is =
    subst (λ x. x < f.environment.count) (sym (is ∙ get_or_default_zero f.reached j item within)) (found_within f j found within)

-- a lifetime without a place was not reached
pub fresh_from :
    (o : Option ℕ) (f : Found) (l : ℕ) → is_some o ≡ false
    → MatchOption o (Contains f.reached l → ⊥) (λ place. (place < length f.reached) × (get_or f.reached place 0 ≡ l))
    → Contains f.reached l → ⊥
fresh_from None f l off says = says
fresh_from (Some place) f l off says = absurd (false≢true (sym off))

-- the next place, as it is written
pub placed_read :
    (order : List ℕ) (places : List (Option ℕ)) (l i n : ℕ) (after : List ℕ) → i ≡ l → n ≡ length order
    → after ≡ order ++ l ∷ [] → Placed order places → l < length places → (Contains order l → ⊥)
    → Placed after (set places i (Some n))
placed_read order places l i n after same last grown placed within fresh =
    subst (λ x. Placed x (set places i (Some n))) (sym grown)
    (subst (λ x. Placed (order ++ l ∷ []) (set places x (Some n))) (sym same)
    (subst (λ x. Placed (order ++ l ∷ []) (set places l (Some x))) (sym last) (placed_more order places l placed within fresh)))

-- one lifetime more, as the lists are written
pub found_read :
    (e : Environment) (order origins after after_origins : List ℕ) (l origin : ℕ) → after ≡ order ++ l ∷ []
    → after_origins ≡ origins ++ origin ∷ [] → IsFound (record { environment = e; reached = order; origins = origins })
    → l < e.count
    → (0 < length order → IsBoundAt (record { environment = e; reached = order; origins = origins }) l origin)
    → IsFound (record { environment = e; reached = after; origins = after_origins })
found_read e order origins after after_origins l origin grown grown_origins found below bound =
    subst (λ x. IsFound (record { environment = e; reached = x; origins = after_origins })) (sym grown)
    (subst (λ x. IsFound (record { environment = e; reached = order ++ l ∷ []; origins = x })) (sym grown_origins)
    (found_more e order origins l origin found below bound))

-- a lifetime goes to the end
pub reaches_new :
    (was f after : Found) (l : ℕ) → was ≡ f → after.environment ≡ was.environment → after.reached ≡ was.reached ++ l ∷ []
    → HasReached f l after
reaches_new was f after l view same grown =
    subst (λ x. HasReached x l after) view
    (record {
      same = same;
      grown = inr grown;
      has = subst (λ x. Contains x l) (sym grown) (Contains-push was.reached l);
    })

-- what is known where there is nothing
pub none_from : (o : Option ℕ) (P : Type 0) (Q : ℕ → Type 0) → is_some o ≡ false → MatchOption o P Q → P
none_from None P Q off says = says
none_from (Some place) P Q off says = absurd (false≢true (sym off))
