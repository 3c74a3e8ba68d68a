-- Lists of lifetimes in which each stands once.
use Rattle.std.proofs.Common.{◌≡◌, ℕ, Bool, true, false, true≢false, cond, not, ◌||◌, List, [], ◌∷◌, map, refl, sym, ap, ◌∙◌}
use Rattle.std.proofs.lemmas.Bool.{eq-eqb, eqb-true}
use Rattle.std.specs.List.{filter, list_any}
use Rattle.hir_life.specs.declared.maybe_static.MaybeStatic.{MaybeStatic}
use Rattle.hir_life.specs.declared.maybe_static.MaybeStatic.TheVariants.{Static, NonStatic}
use Rattle.hir_skeleton.specs.Leaves.{are_same, each_once}

-- the others of a list
abbrev pub without : MaybeStatic ℕ → List (MaybeStatic ℕ) → List (MaybeStatic ℕ)
without l ls = filter (λ m. not (are_same l m)) ls

same_is_equal : (l m : MaybeStatic ℕ) → are_same l m ≡ true → l ≡ m
same_is_equal Static Static e = refl
same_is_equal Static (NonStatic m) e = absurd (true≢false (sym e))
same_is_equal (NonStatic l) Static e = absurd (true≢false (sym e))
same_is_equal (NonStatic l) (NonStatic m) e = ap (λ n. NonStatic n) (eqb-true l m e)

is_itself : (l : MaybeStatic ℕ) → are_same l l ≡ true
is_itself Static = refl
is_itself (NonStatic l) = eq-eqb l l refl

-- two filters in either order
filter_cond : (p : MaybeStatic ℕ → Bool) (b : Bool) (l : MaybeStatic ℕ) (ls : List (MaybeStatic ℕ)) → filter p (cond b (l ∷ ls) ls) ≡ cond b (cond (p l) (l ∷ filter p ls) (filter p ls)) (filter p ls)
filter_cond p true l ls = refl
filter_cond p false l ls = refl

cond_swap : {A : Type 0} (a b : Bool) (x y : A) → cond b (cond a x y) y ≡ cond a (cond b x y) y
cond_swap true true x y = refl
cond_swap true false x y = refl
cond_swap false true x y = refl
cond_swap false false x y = refl

cond_again : {A : Type 0} (a : Bool) (x y : A) → cond a (cond a x y) y ≡ cond a x y
cond_again true x y = refl
cond_again false x y = refl

filters_swap : (p q : MaybeStatic ℕ → Bool) (ls : List (MaybeStatic ℕ)) → filter p (filter q ls) ≡ filter q (filter p ls)
filters_swap p q [] = refl
filters_swap p q (l ∷ ls) =
    filter_cond p (q l) l (filter q ls)
    ∙ cond_swap (p l) (q l) (l ∷ filter p (filter q ls)) (filter p (filter q ls))
    ∙ ap (λ z. cond (p l) (cond (q l) (l ∷ z) z) z) (filters_swap p q ls)
    ∙ sym (filter_cond q (p l) l (filter p ls))

filter_twice : (p : MaybeStatic ℕ → Bool) (ls : List (MaybeStatic ℕ)) → filter p (filter p ls) ≡ filter p ls
filter_twice p [] = refl
filter_twice p (l ∷ ls) =
    filter_cond p (p l) l (filter p ls)
    ∙ cond_again (p l) (l ∷ filter p (filter p ls)) (filter p (filter p ls))
    ∙ ap (λ z. cond (p l) (l ∷ z) z) (filter_twice p ls)

-- whether one of them passes
or_again : (a c : Bool) → (a || c) ≡ (a || (a || c))
or_again true c = refl
or_again false c = refl

or_between : (a b c d : Bool) → (a || c) ≡ (a || d) → (a || (b || c)) ≡ (a || (b || d))
or_between true b c d e = refl
or_between false b c d e = ap (λ x. b || x) e

one_without : (p : MaybeStatic ℕ → Bool) (l m : MaybeStatic ℕ) (ls : List (MaybeStatic ℕ)) (b : Bool) → are_same l m ≡ b → (p l || list_any p (without l ls)) ≡ (p l || list_any p ls)
    → (p l || list_any p (cond (not b) (m ∷ without l ls) (without l ls))) ≡ (p l || (p m || list_any p ls))
one_without p l m ls true same e = e ∙ or_again (p l) (list_any p ls) ∙ ap (λ x. p l || (p x || list_any p ls)) (same_is_equal l m same)
one_without p l m ls false same e = or_between (p l) (p m) (list_any p (without l ls)) (list_any p ls) e

any_without : (p : MaybeStatic ℕ → Bool) (l : MaybeStatic ℕ) (ls : List (MaybeStatic ℕ)) → (p l || list_any p (without l ls)) ≡ (p l || list_any p ls)
any_without p l [] = refl
any_without p l (m ∷ ls) = one_without p l m ls (are_same l m) refl (any_without p l ls)

pub any_once : (p : MaybeStatic ℕ → Bool) (ls : List (MaybeStatic ℕ)) → list_any p (each_once ls) ≡ list_any p ls
any_once p [] = refl
any_once p (l ∷ ls) = any_without p l (each_once ls) ∙ ap (λ x. p l || x) (any_once p ls)

-- what becomes of each, once
module _ (f : MaybeStatic ℕ → MaybeStatic ℕ) where
  equal_dropped : (l : MaybeStatic ℕ) (b : Bool) (rest : List (MaybeStatic ℕ)) → are_same (f l) (f l) ≡ b → b ≡ true → cond (not b) (f l ∷ rest) rest ≡ rest
  equal_dropped l b rest same holds = ap (λ c. cond (not c) (f l ∷ rest) rest) holds

  mapped_one : (l m : MaybeStatic ℕ) (ls : List (MaybeStatic ℕ)) (b : Bool) → are_same l m ≡ b → without (f l) (each_once (map f (without l ls))) ≡ without (f l) (each_once (map f ls))
      → without (f l) (each_once (map f (cond (not b) (m ∷ without l ls) (without l ls)))) ≡ without (f l) (each_once (map f (m ∷ ls)))
  mapped_one l m ls true same e =
      e ∙ sym (filter_twice (λ x. not (are_same (f l) x)) (each_once (map f ls)))
      ∙ sym (equal_dropped l (are_same (f l) (f l)) (without (f l) (without (f l) (each_once (map f ls)))) refl (is_itself (f l)))
      ∙ ap (λ x. without (f l) (each_once (map f (x ∷ ls)))) (same_is_equal l m same)
  mapped_one l m ls false same e =
      ap (λ rest. cond (not (are_same (f l) (f m))) (f m ∷ rest) rest)
      (filters_swap (λ x. not (are_same (f l) x)) (λ x. not (are_same (f m) x)) (each_once (map f (without l ls)))
      ∙ ap (without (f m)) e
      ∙ filters_swap (λ x. not (are_same (f m) x)) (λ x. not (are_same (f l) x)) (each_once (map f ls)))

  mapped_without : (l : MaybeStatic ℕ) (ls : List (MaybeStatic ℕ)) → without (f l) (each_once (map f (without l ls))) ≡ without (f l) (each_once (map f ls))
  mapped_without l [] = refl
  mapped_without l (m ∷ ls) = mapped_one l m ls (are_same l m) refl (mapped_without l ls)

  pub once_mapped : (ls : List (MaybeStatic ℕ)) → each_once (map f (each_once ls)) ≡ each_once (map f ls)
  once_mapped [] = refl
  once_mapped (l ∷ ls) =
      ap (λ rest. f l ∷ rest) (mapped_without l (each_once ls) ∙ ap (without (f l)) (once_mapped ls))
