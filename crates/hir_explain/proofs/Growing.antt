-- A search that reaches more lifetimes.
use Rattle.std.proofs.Common.{◌≡◌, ℕ, ◌+◌, ◌<◌, inl, inr, List, [], ◌∷◌, ◌++◌, length, get_or, sym, ◌∙◌, ap, subst, arith, append_assoc}
use Rattle.std.specs.List.{Contains}
use Rattle.std.proofs.Math.ListN.{get_or-append}
use Rattle.std.proofs.lemmas.List.Elements.{Contains-append_left}
use Rattle.std.proofs.lemmas.Bool.{cases_lt}
use Rattle.hir_life.specs.Environment.{longer_of}
use Rattle.hir_life.specs.Outlives.{Direct}
use Rattle.hir_explain.specs.inside.Searching.{Found, Grows, IsFollowed, HasReached}

-- what was reached stays reached
pub reaches_keeps : (f after : Found) (l k : ℕ) → HasReached f l after → Contains f.reached k → Contains after.reached k
reaches_keeps f after l k reaches h =
    elim reaches.grown [
      | inl same ↦ subst (λ x. Contains x k) (sym same) h
      | inr more ↦ subst (λ x. Contains x k) (sym more) (Contains-append_left f.reached (l ∷ []) k h)
    ]

-- one lifetime more
pub grows_more : (f mid after : Found) (l : ℕ) → Grows f mid → HasReached mid l after → Grows f after
grows_more f mid after l grows reaches =
    elim reaches.grown [
      | inl same ↦ record { same = reaches.same ∙ grows.same; more = grows.more; grown = same ∙ grows.grown }
      | inr more ↦
          record {
            same = reaches.same ∙ grows.same;
            more = grows.more ++ l ∷ [];
            grown = more ∙ ap (λ x. x ++ l ∷ []) grows.grown ∙ append_assoc f.reached grows.more (l ∷ []);
          }
    ]

pub grows_through : (f mid after : Found) → Grows f mid → Grows mid after → Grows f after
grows_through f mid after first second =
    record {
      same = second.same ∙ first.same;
      more = first.more ++ second.more;
      grown = second.grown ∙ ap (λ x. x ++ second.more) first.grown ∙ append_assoc f.reached first.more second.more;
    }

-- what stood at a place stands there still
grows_at :
    (f after : Found) (j : ℕ) → Grows f after → j < length f.reached → get_or after.reached j 0 ≡ get_or f.reached j 0
grows_at f after j grows within = ap (λ x. get_or x j 0) grows.grown ∙ get_or-append f.reached grows.more 0 j within

grows_keeps : (f after : Found) (k : ℕ) → Grows f after → Contains f.reached k → Contains after.reached k
grows_keeps f after k grows h =
    subst (λ x. Contains x k) (sym grows.grown) (Contains-append_left f.reached grows.more k h)

-- the bounds of what was reached stay what they were
direct_before :
    (f after : Found) (place l : ℕ) → Grows f after → place < length f.reached
    → Direct (longer_of after.environment) l (get_or after.reached place 0)
    → Direct (longer_of f.environment) l (get_or f.reached place 0)
direct_before f after place l grows within h =
    subst (λ e. Direct (longer_of e) l (get_or f.reached place 0)) grows.same
    (subst (λ x. Direct (longer_of after.environment) l x) (grows_at f after place grows within) h)

-- all bounds of the lifetime at a place are reached
pub followed_all :
    (f after : Found) (place : ℕ) (bounds : List ℕ) → Grows f after → place < length f.reached
    → bounds ≡ longer_of f.environment (get_or f.reached place 0)
    → ((k : ℕ) → Contains bounds k → Contains after.reached k) → IsFollowed after place
followed_all f after place bounds grows within is all l direct =
    all l (subst (λ x. Contains x l) (sym is) (direct_before f after place l grows within direct))

-- one place more is followed
pub followed_more :
    (f after : Found) (place : ℕ) → Grows f after → place < length f.reached
    → ((p : ℕ) → p < place → IsFollowed f p) → IsFollowed after place → (p : ℕ) → p < place + 1 → IsFollowed after p
followed_more f after place grows within before here p below l direct =
    elim (cases_lt p place) [
      | inl old ↦
          grows_keeps f after l grows
          (before p old l (direct_before f after p l grows (omega (arith, old, within)) direct))
      | inr new ↦
          let e : p ≡ place = omega (arith, new, below) in
          here l (subst (λ x. Direct (longer_of after.environment) l (get_or after.reached x 0)) e direct)
    ]
