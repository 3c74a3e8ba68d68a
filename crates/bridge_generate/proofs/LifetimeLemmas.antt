-- The lifetimes of each declaration fit together.
use Rattle.std.proofs.Common.{◌≡◌, ℕ, zero, suc, [], ◌∷◌, refl, sym, arith, subst}
use Rattle.std.specs.List.{Contains}
use Rattle.bridge_decl.specs.Lifetimes.{IsSoundEnvironment, declared_longer, declared_shorter, lifetime_names}
use Rattle.bridge_text.specs.NameIndex.{AreDistinct}
use Rattle.bridge_generate.specs.Generated.{one_lifetime, two_lifetimes}
use Rattle.bridge_generate.proofs.ListLemmas.{begin_apart}

none_in : {A : Type 0} (x : A) → ¬ Contains [] x
none_in x h = absurd (omega (arith, h.1))

one_in : (x y : ℕ) → Contains (x ∷ []) y → y ≡ x
one_in x y (zero, within, is) = sym is
one_in x y (suc k, within, is) = absurd (omega arith)

-- ---- none

pub none_sound : IsSoundEnvironment (record { nodes = [] })
none_sound = record {
  distinct = λ i j d before within. absurd (omega arith);
  bounds = record {
    longer_named = λ s l h. absurd (none_in l h);
    shorter_named = λ l s h. absurd (none_in s h);
    longer_has_shorter = λ l s h. absurd (none_in l h);
    shorter_has_longer = λ l s h. absurd (none_in s h);
  };
}

-- ---- `'a` alone

no_longer : (s l : ℕ) → ¬ Contains (declared_longer one_lifetime s) l
no_longer zero l h = none_in l h
no_longer (suc s) l h = none_in l h

no_shorter : (l s : ℕ) → ¬ Contains (declared_shorter one_lifetime l) s
no_shorter zero s h = none_in s h
no_shorter (suc l) s h = none_in s h

pub one_sound : IsSoundEnvironment one_lifetime
one_sound = record {
  distinct = λ i j d before within. absurd (omega arith);
  bounds = record {
    longer_named = λ s l h. absurd (no_longer s l h);
    shorter_named = λ l s h. absurd (no_shorter l s h);
    longer_has_shorter = λ l s h. absurd (no_longer s l h);
    shorter_has_longer = λ l s h. absurd (no_shorter l s h);
  };
}

-- ---- `'a` and `'b`, which outlives it

-- only the second is longer, and than the first
longer_is : (s l : ℕ) → Contains (declared_longer two_lifetimes s) l → (s ≡ 0) × (l ≡ 1)
longer_is zero l h = (refl, one_in 1 l h)
longer_is (suc zero) l h = absurd (none_in l h)
longer_is (suc (suc s)) l h = absurd (none_in l h)

-- only the first is shorter, and than the second
shorter_is : (l s : ℕ) → Contains (declared_shorter two_lifetimes l) s → (l ≡ 1) × (s ≡ 0)
shorter_is zero s h = absurd (none_in s h)
shorter_is (suc zero) s h = (refl, one_in 0 s h)
shorter_is (suc (suc l)) s h = absurd (none_in s h)

pub two_sound : IsSoundEnvironment two_lifetimes
two_sound = record {
  distinct = names_differ;
  bounds = record {
    longer_named = λ s l h. let at = longer_is s l h in omega arith;
    shorter_named = λ l s h. let at = shorter_is l s h in omega arith;
    longer_has_shorter = λ l s h. let at = longer_is s l h in
        subst (λ n. Contains (declared_shorter two_lifetimes n) s) (sym at.1)
        (subst (λ n. Contains (declared_shorter two_lifetimes 1) n) (sym at.0) (0, omega arith, refl));
    shorter_has_longer = λ l s h. let at = shorter_is l s h in
        subst (λ n. Contains (declared_longer two_lifetimes n) l) (sym at.1)
        (subst (λ n. Contains (declared_longer two_lifetimes 0) n) (sym at.0) (0, omega arith, refl));
  };
}
  where
    names_differ : AreDistinct (lifetime_names two_lifetimes)
    names_differ zero zero d before within same = absurd (omega arith)
    names_differ zero (suc zero) d before within same = begin_apart 97 98 [] [] (λ e. absurd (omega arith)) same
    names_differ zero (suc (suc j)) d before within same = absurd (omega arith)
    names_differ (suc i) j d before within same = absurd (omega arith)
