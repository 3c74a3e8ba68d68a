-- What is written at a key of a map.
use Rattle.std.proofs.Common.{◌≡◌, ◌≢◌, inl, inr, ℕ, false, Option, Some, option_map, refl, sym, ap, subst, ◌∙◌, arith}
use Rattle.std.specs.Prelude.{IfSome, IsSome}
use Rattle.std.specs.Ordering.{nat_cmp}
use Rattle.std.specs.BTreeMap.{BTreeMap, WritesThrough, get, is_at}
use Rattle.std.proofs.lemmas.Bool.{cases_eq}
use Rattle.std.proofs.lemmas.Bool.Decides.{nat_tests}

pub at_other : (k t : ℕ) → t ≢ k → is_at (nat_cmp k) t ≡ false
at_other k t apart = grind (arith, nat_tests)

module _ {X : Type 0} (m n : BTreeMap ℕ X) (k : ℕ) (old w : X) (there : get nat_cmp m k ≡ Some old) (writes : WritesThrough nat_cmp (nat_cmp k) m w n) where
  is_there : (o : Option X) → o ≡ Some old → IsSome o
  is_there o e = subst IsSome (sym e) refl

  pub found_here : get nat_cmp n k ≡ Some w
  found_here = (writes.3 (is_there (get nat_cmp m k) there)).1

  pub found_other : (t : ℕ) → t ≢ k → get nat_cmp n t ≡ get nat_cmp m t
  found_other t apart = (writes.3 (is_there (get nat_cmp m k) there)).2 t (at_other k t apart)

  -- what is the same of both values is the same of the maps
  pub same_everywhere : {Y : Type 0} (f : X → Y) → f w ≡ f old → (t : ℕ) → option_map f (get nat_cmp n t) ≡ option_map f (get nat_cmp m t)
  same_everywhere f same t =
      elim (cases_eq t k) [
        | inl e ↦ subst (λ z. option_map f (get nat_cmp n z) ≡ option_map f (get nat_cmp m z)) (sym e)
            (ap (option_map f) found_here ∙ (ap Some same ∙ sym (ap (option_map f) there)))
        | inr apart ↦ ap (option_map f) (found_other t apart)
      ]

  -- what holds of the new value if it does of the old holds at each key at which it did
  pub holds_still : (P : X → Type 0) → (P old → P w) → (t : ℕ) → IfSome (get nat_cmp m t) P → IfSome (get nat_cmp n t) P
  holds_still P more t h =
      elim (cases_eq t k) [
        | inl e ↦ subst (λ o. IfSome o P) (sym (ap (get nat_cmp n) e ∙ found_here)) (more (subst (λ o. IfSome o P) (ap (get nat_cmp m) e ∙ there) h))
        | inr apart ↦ subst (λ o. IfSome o P) (sym (found_other t apart)) h
      ]

  pub holds_here : (P : X → Type 0) → P w → IfSome (get nat_cmp n k) P
  holds_here P h = subst (λ o. IfSome o P) (sym found_here) h
