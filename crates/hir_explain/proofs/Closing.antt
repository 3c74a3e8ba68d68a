-- The lifetimes that outlive one can be listed.
use Rattle.std.proofs.Common.{ℕ, ◌+◌, ◌<◌, ◌≤◌, ◌↔◌, ◌⊎◌, inl, inr, zero, suc, List, [], ◌∷◌, ◌++◌, length, refl, sym, subst, arith, length-append}
use Rattle.std.specs.List.{Contains}
use Rattle.std.proofs.lemmas.Bool.{cases_eq}
use Rattle.std.proofs.lemmas.List.Elements.{Contains-append_cases, Contains-append_left, Contains-append_right, Contains-push_cases}
use Rattle.hir_life.specs.Environment.{Environment, IsSound, longer_of}
use Rattle.hir_life.specs.Listing.{IsOnceEach}
use Rattle.hir_life.specs.Outlives.{Direct, Outlives}
use Rattle.hir_life.specs.declared.maybe_static.MaybeStatic.{MaybeStatic}
use Rattle.hir_life.specs.declared.walks.Direction.TheVariants.{Longer}
use Rattle.hir_life.proofs.Chains.{closed_has_longer, outlives_by_longer, outlives_itself}
use Rattle.hir_life.proofs.Distinct.{distinct_below}
use Rattle.hir_life.proofs.Following.{bound_within, only}
use Rattle.hir_life.proofs.Marking.{apart_more}
use Rattle.hir_explain.specs.Explanations.{HasCarried, IsListed, IsSteady}
use Rattle.hir_explain.proofs.Finding.{within_more}

-- a number stands in a list, or it doesn't
stands_or_not : (ls : List ℕ) (l : ℕ) → Contains ls l ⊎ (Contains ls l → ⊥)
stands_or_not [] l = inr (λ h. omega (arith, h.1))
stands_or_not (x ∷ xs) l =
    elim (cases_eq x l) [
      | inl e ↦ inl (0, omega arith, e)
      | inr ne ↦
          elim (stands_or_not xs l) [
            | inl h ↦ inl (Contains-append_right (x ∷ []) xs l h)
            | inr not ↦
                inr
                (λ h.
                elim (Contains-append_cases (x ∷ []) xs l h) [
                  | inl one ↦ ne (only x l one)
                  | inr rest ↦ not rest
                ])
          ]
    ]

-- a lifetime of xs that isn't in the list
record Missing (ls xs : List ℕ) : Type 0 where
  lifetime : ℕ
  has : Contains xs lifetime
  fresh : Contains ls lifetime → ⊥

-- all of xs are in the list, or one isn't
all_or_missing : (ls xs : List ℕ) → ((l : ℕ) → Contains xs l → Contains ls l) ⊎ Missing ls xs
all_or_missing ls [] = inl (λ l h. absurd (omega (arith, h.1)))
all_or_missing ls (x ∷ xs) =
    elim (stands_or_not ls x) [
      | inr not ↦ inr (record { lifetime = x; has = (0, omega arith, refl); fresh = not })
      | inl here ↦
          elim (all_or_missing ls xs) [
            | inl all ↦
                inl
                (λ l h.
                elim (Contains-append_cases (x ∷ []) xs l h) [
                  | inl one ↦ subst (λ y. Contains ls y) (only x l one) here
                  | inr rest ↦ all l rest
                ])
            | inr lacks ↦
                inr
                (record {
                  lifetime = lacks.lifetime;
                  has = Contains-append_right (x ∷ []) xs lacks.lifetime lacks.has;
                  fresh = lacks.fresh;
                })
          ]
    ]

-- a bound of a lifetime of xs that isn't in the list
record Open (e : Environment) (ls xs : List ℕ) : Type 0 where
  lifetime : ℕ
  shorter : ℕ
  has : Contains xs shorter
  direct : Direct (longer_of e) lifetime shorter
  fresh : Contains ls lifetime → ⊥

-- all bounds of lifetimes of xs are in the list, or one isn't
closed_or_open :
    (e : Environment) (ls xs : List ℕ)
    → ((l s : ℕ) → Contains xs s → Direct (longer_of e) l s → Contains ls l) ⊎ Open e ls xs
closed_or_open e ls [] = inl (λ l s h direct. absurd (omega (arith, h.1)))
closed_or_open e ls (x ∷ xs) =
    elim (all_or_missing ls (longer_of e x)) [
      | inr lacks ↦
          inr
          (record {
            lifetime = lacks.lifetime;
            shorter = x;
            has = (0, omega arith, refl);
            direct = lacks.has;
            fresh = lacks.fresh;
          })
      | inl here ↦
          elim (closed_or_open e ls xs) [
            | inl all ↦
                inl
                (λ l s h direct.
                elim (Contains-append_cases (x ∷ []) xs s h) [
                  | inl one ↦ here l (subst (λ y. Direct (longer_of e) l y) (sym (only x s one)) direct)
                  | inr rest ↦ all l s rest direct
                ])
            | inr open_one ↦
                inr
                (record {
                  lifetime = open_one.lifetime;
                  shorter = open_one.shorter;
                  has = Contains-append_right (x ∷ []) xs open_one.shorter open_one.has;
                  direct = open_one.direct;
                  fresh = open_one.fresh;
                })
          ]
    ]

-- a list of lifetimes that outlive t, among which t is, and in which each stands once
record Partial (e : Environment) (t : ℕ) (ls : List ℕ) : Type 0 where
  once : IsOnceEach ls
  within : (k : ℕ) → Contains ls k → k < e.count
  outlive : (k : ℕ) → Contains ls k → Outlives (longer_of e) k t
  has_t : Contains ls t

-- a steady list of them
record Closure (e : Environment) (t : ℕ) : Type 0 where
  long : List ℕ
  steady : IsSteady e long
  has_t : Contains long t
  outlive : (k : ℕ) → Contains long k → Outlives (longer_of e) k t

partial_more :
    (e : Environment) (t : ℕ) (ls : List ℕ) → IsSound e → Partial e t ls → (one : Open e ls ls)
    → Partial e t (ls ++ one.lifetime ∷ [])
partial_more e t ls sound before one =
    record {
      once = apart_more ls one.lifetime one.fresh before.once;
      within = within_more ls one.lifetime e.count (bound_within e Longer one.shorter one.lifetime sound one.direct) before.within;
      outlive = λ k h.
          elim (Contains-push_cases ls one.lifetime k h) [
            | inl old ↦ before.outlive k old
            | inr same ↦
                subst (λ x. Outlives (longer_of e) x t) same
                (outlives_by_longer (longer_of e) one.lifetime one.shorter t one.direct (before.outlive one.shorter one.has))
          ];
      has_t = Contains-append_left ls (one.lifetime ∷ []) t before.has_t;
    }

no_room :
    (e : Environment) (t : ℕ) (ls : List ℕ) → Partial e t ls → length ls ≤ e.count
no_room e t ls is = distinct_below ls e.count is.once is.within

close :
    (e : Environment) (t : ℕ) → IsSound e → (left : ℕ) (ls : List ℕ) → Partial e t ls → e.count ≤ left + length ls
    → Closure e t
close e t sound zero ls is room =
    elim (closed_or_open e ls ls) [
      | inl steady ↦ record { long = ls; steady = steady; has_t = is.has_t; outlive = is.outlive }
      | inr one ↦
          absurd
          (omega (arith, room, no_room e t (ls ++ one.lifetime ∷ []) (partial_more e t ls sound is one), length-append ls (one.lifetime ∷ [])))
    ]
close e t sound (suc left) ls is room =
    elim (closed_or_open e ls ls) [
      | inl steady ↦ record { long = ls; steady = steady; has_t = is.has_t; outlive = is.outlive }
      | inr one ↦
          close e t sound left (ls ++ one.lifetime ∷ []) (partial_more e t ls sound is one)
          (omega (arith, room, length-append ls (one.lifetime ∷ [])))
    ]

partial_alone : (e : Environment) (t : ℕ) → t < e.count → Partial e t (t ∷ [])
partial_alone e t below =
    record {
      once = λ i j before within same. omega (arith, before, within);
      within = λ k h. subst (λ x. x < e.count) (only t k h) below;
      outlive = λ k h. subst (λ x. Outlives (longer_of e) x t) (only t k h) (outlives_itself (longer_of e) t);
      has_t = (0, omega arith, refl);
    }

-- a leaf is listed exactly where it carries a long lifetime, whatever steady lifetimes are long
pub listed_where_steady :
    (e : Environment) → IsSound e → (carried : List (MaybeStatic ℕ)) (t : ℕ) → t < e.count
    → (IsListed e carried t ↔ ((long : List ℕ) → IsSteady e long → Contains long t → HasCarried carried long))
listed_where_steady e sound carried t below = (
  λ listed long steady has_t.
      record {
        carrier = listed.carrier;
        is_carried = listed.is_carried;
        has =
            closed_has_longer (longer_of e) (λ x. Contains long x) t has_t (λ k l has direct. steady l k has direct)
            listed.carrier listed.outlives;
      },
  λ every.
      let whole = close e t sound e.count (t ∷ []) (partial_alone e t below) (omega arith) in
      let some = every whole.long whole.steady whole.has_t in
      record { carrier = some.carrier; is_carried = some.is_carried; outlives = whole.outlive some.carrier some.has },
)
