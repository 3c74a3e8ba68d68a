-- Sets of pairs with one pair more.
use Rattle.std.proofs.Common.{◌≡◌, ℕ, Bool, true, false, cond, refl, sym, ap, ◌∙◌, inl, inr}
use Rattle.std.specs.Prelude.{◌↔◌, ◌⊎◌, IsTrue}
use Rattle.std.specs.Ordering.{nat_cmp, is_eq}
use Rattle.std.specs.declared.cmp.Ordering.TheVariants.{Equal}
use Rattle.std.specs.BTreeMap.{is_at}
use Rattle.std.specs.BTreeSet.{BTreeSet, Updates, contains}
use Rattle.std.proofs.lemmas.Cmp.{tied_itself, nat_cmp_total}
use Rattle.std.proofs.lemmas.Map.Lookups.{exact_pairs, exact_unsigned}
use Rattle.std.proofs.lemmas.Map.Views.{tells_apart}
use Rattle.bridge_ast.specs.inside.Pairs.{HasPair, pair_cmp}

-- what is there after an addition
added : (is_it was now : Bool) → now ≡ cond is_it true was → IsTrue now ↔ (IsTrue was ⊎ IsTrue is_it)
added true was now e = (λ h. inr refl, λ h. e)
added false was now e = (λ h. inl (sym e ∙ h), λ h. elim h [ inl w ↦ e ∙ w | inr w ↦ absurd cc ])

-- a pair is found under itself, and under no other
pub pair_itself : (pair : ℕ × ℕ) → pair_cmp pair pair ≡ Equal
pair_itself pair = rw (tied_itself nat_cmp_total pair.0) (tied_itself nat_cmp_total pair.1)

pair_found : (from to first second : ℕ) → IsTrue (is_at (pair_cmp (from, to)) (first, second)) ↔ ((first ≡ from) × (second ≡ to))
pair_found from to first second = (
  λ h. let same =
      tells_apart (exact_pairs nat_cmp nat_cmp exact_unsigned exact_unsigned) (from, to) (first, second) h in
      (sym (ap (λ p. p.0) same), sym (ap (λ p. p.1) same)),
  λ (p, q). ap is_eq (ap (λ n. pair_cmp (from, to) (n, second)) p ∙ ap (λ n. pair_cmp (from, to) (from, n)) q
      ∙ pair_itself (from, to)),
)

pub pair_more : (old new : BTreeSet (ℕ × ℕ)) (from to : ℕ) → Updates pair_cmp old new (from, to) true → (first second : ℕ)
    → HasPair new first second ↔ (HasPair old first second ⊎ ((first ≡ from) × (second ≡ to)))
pair_more old new from to updates first second =
    let now = added (is_at (pair_cmp (from, to)) (first, second)) (contains pair_cmp old (first, second))
    (contains pair_cmp new (first, second)) (updates.0 (first, second)) in
    let found = pair_found from to first second in (
      λ h. elim (now.0 h) [ inl w ↦ inl w | inr w ↦ inr (found.0 w) ],
      λ h. elim h [ inl w ↦ now.1 (inl w) | inr w ↦ now.1 (inr (found.1 w)) ],
    )
