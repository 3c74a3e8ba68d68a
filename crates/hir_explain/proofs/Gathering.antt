-- Lifetimes that were reached, gathered in ascending order.
use Rattle.std.proofs.Common.{◌≡◌, ℕ, ◌+◌, ◌<◌, ◌↔◌, inl, inr, List, [], ◌∷◌, ◌++◌, sym, subst, arith}
use Rattle.std.specs.List.{All, Contains}
use Rattle.std.proofs.lemmas.Bool.{cases_lt}
use Rattle.std.proofs.lemmas.List.Elements.{Contains-append_left, Contains-push, Contains-push_cases}
use Rattle.hir_explain.proofs.Chaining.{within_pushed}

-- the list has those below i, all of which are the environment's
pub record Gathered (reached : List ℕ) (count i : ℕ) (list : List ℕ) : Type 0 where
  pub has : (k : ℕ) → (Contains list k ↔ ((k < i) × Contains reached k))
  pub within : All (λ k. k < count) list

-- the next was reached
pub gathered_more :
    (reached : List ℕ) (count i item : ℕ) (list after : List ℕ) → Gathered reached count i list → item ≡ i → i < count
    → Contains reached item → after ≡ list ++ item ∷ [] → Gathered reached count (i + 1) after
gathered_more reached count i item list after before is below here grown =
    record {
      has = λ k. (
        λ h.
            elim (Contains-push_cases list item k (subst (λ x. Contains x k) grown h)) [
              | inl old ↦ let was = (before.has k).0 old in (omega (arith, was.0), was.1)
              | inr e ↦ (omega (arith, e, is), subst (λ x. Contains reached x) e here)
            ],
        λ h.
            subst (λ x. Contains x k) (sym grown)
            (elim (cases_lt k i) [
              | inl old ↦ Contains-append_left list (item ∷ []) k ((before.has k).1 (old, h.1))
              | inr new ↦
                  let e : item ≡ k = omega (arith, new, h.0, is) in
                  subst (λ x. Contains (list ++ item ∷ []) x) e (Contains-push list item)
            ]),
      );
      within = within_pushed count list after item grown before.within (omega (arith, is, below));
    }

-- the next wasn't reached
pub gathered_skip :
    (reached : List ℕ) (count i item : ℕ) (list after : List ℕ) → Gathered reached count i list → item ≡ i
    → (Contains reached item → ⊥) → after ≡ list → Gathered reached count (i + 1) after
gathered_skip reached count i item list after before is not same =
    subst (λ x. Gathered reached count (i + 1) x) (sym same)
    (record {
      has = λ k. (
        λ h. let was = (before.has k).0 h in (omega (arith, was.0), was.1),
        λ h.
            elim (cases_lt k i) [
              | inl old ↦ (before.has k).1 (old, h.1)
              | inr new ↦
                  let e : k ≡ item = omega (arith, new, h.0, is) in
                  absurd (not (subst (λ x. Contains reached x) e h.1))
            ],
      );
      within = before.within;
    })
