-- Whether something in a type carries a lifetime that passes a test, whatever its leaves are.
use Rattle.std.proofs.Common.{◌≡◌, ◌≤◌, ◌+◌, ℕ, zero, suc, Bool, true, false, true≢false, ◌||◌, List, [], ◌∷◌, map, refl, sym, ap, subst, ◌∙◌, arith}
use Rattle.std.specs.List.{All, list_any}
use Rattle.std.proofs.lemmas.Bool.{eq-eqb, eqb-true}
use Rattle.std.proofs.lemmas.List.Folds.{list_any-append}
use Rattle.std.proofs.lemmas.List.Elements.{All-nil, All-weaker}
use Rattle.hir_life.specs.Substitution.{subst as stands_for, subst_each}
use Rattle.hir_life.specs.declared.maybe_static.MaybeStatic.{MaybeStatic}
use Rattle.hir_life.specs.declared.maybe_static.MaybeStatic.TheVariants.{Static, NonStatic}
use Rattle.hir_skeleton.specs.Skeletons.{Skeleton, Nothing, Carrier, Struct}
use Rattle.hir_skeleton.specs.Leaves.{DeepLeaf, deep_leaves, each_once, in_field, leaf_passes, number_passes, struct_leaves, through, type_leaves}
use Rattle.hir_skeleton.proofs.Fields.{fields_from}
use Rattle.hir_skeleton.proofs.Once.{any_once}
use Rattle.hir_skeleton.proofs.Passing.{any_through, argument_passes, passing_argument, passing_number, some_passes, through_twice}
use Rattle.hir_borrowing_params.specs.inside.Searching.{NestsInside, NestsWithin, is_number, struct_passes, type_passes}
use Rattle.hir_borrowing_params.proofs.Finding.{any_alike, any_found, any_there, any_weaker, or_none}

-- a number is itself, and no other
pub is_itself : (d : ℕ) → is_number d d ≡ true
is_itself d = eq-eqb d d refl

pub is_same : (d l : ℕ) → is_number d l ≡ true → l ≡ d
is_same d l h = eqb-true l d h

-- ---- among leaves

module _ (test : ℕ → Bool) where
  any_in_field : (m : ℕ) (leaves : List DeepLeaf) → list_any (leaf_passes test) (map (in_field m) leaves) ≡ list_any (leaf_passes test) leaves
  any_in_field m [] = refl
  any_in_field m (leaf ∷ leaves) = ap (λ b. leaf_passes test leaf || b) (any_in_field m leaves)

  pub any_in_fields : {K : Type 0} (f : Skeleton K → List DeepLeaf) (m : ℕ) (fields : List (Skeleton K))
      → list_any (leaf_passes test) (fields_from in_field f m fields) ≡ list_any (λ s. list_any (leaf_passes test) (f s)) fields
  any_in_fields f m [] = refl
  any_in_fields f m (s ∷ fields) =
      list_any-append (leaf_passes test) (map (in_field m) (f s)) (fields_from in_field f (m + 1) fields)
      ∙ (λ i. any_in_field m (f s) i || any_in_fields f (m + 1) fields i)

module _ {K : Type 0} (fields_of : K → List (Skeleton K)) where
  module _ (test : ℕ → Bool) where
    abbrev Passes : ℕ → Type 0
    Passes n = (key : K) (args : List (MaybeStatic ℕ)) → list_any (leaf_passes test) (struct_leaves fields_of n key args) ≡ struct_passes fields_of n key (through test args)

    passes_in : (n : ℕ) → Passes n → (args : List (MaybeStatic ℕ)) (s : Skeleton K)
        → list_any (leaf_passes test) (type_leaves (struct_leaves fields_of n) args s) ≡ type_passes (struct_passes fields_of n) (through test args) s
    passes_in n claim args Nothing = refl
    passes_in n claim args (Carrier ls) =
        or_none (list_any (number_passes test) (each_once (subst_each ls args)))
        ∙ any_once (number_passes test) (subst_each ls args)
        ∙ sym (any_through test args ls)
    passes_in n claim args (Struct key given) =
        claim key (subst_each given args) ∙ ap (struct_passes fields_of n key) (sym (through_twice test args given))

    passes_more : (n : ℕ) → Passes n → Passes (suc n)
    passes_more n claim key args =
        any_in_fields test (type_leaves (struct_leaves fields_of n) args) 0 (fields_of key)
        ∙ ap (λ p. list_any p (fields_of key)) (λ i s. passes_in n claim args s i)

    passes : (n : ℕ) → Passes n
    passes zero = λ key args. refl
    passes (suc n) = passes_more n (passes n)

    -- a leaf of a type passes exactly where the type does
    pub leaves_pass : (n : ℕ) (args : List (MaybeStatic ℕ)) (s : Skeleton K)
        → list_any (leaf_passes test) (deep_leaves fields_of n args s) ≡ type_passes (struct_passes fields_of n) (through test args) s
    leaves_pass n args s = passes_in n (passes n) args s

  -- ---- what passes a test passes a weaker one

  abbrev Weakens : ℕ → Type 0
  Weakens n = (key : K) (p q : ℕ → Bool) → ((l : ℕ) → p l ≡ true → q l ≡ true) → struct_passes fields_of n key p ≡ true → struct_passes fields_of n key q ≡ true

  number_weaker : (p q : ℕ → Bool) → ((l : ℕ) → p l ≡ true → q l ≡ true) → (l : MaybeStatic ℕ) → number_passes p l ≡ true → number_passes q l ≡ true
  number_weaker p q weaker Static h = h
  number_weaker p q weaker (NonStatic l) h = weaker l h

  type_weaker : (n : ℕ) → Weakens n → (p q : ℕ → Bool) → ((l : ℕ) → p l ≡ true → q l ≡ true) → (s : Skeleton K)
      → type_passes (struct_passes fields_of n) p s ≡ true → type_passes (struct_passes fields_of n) q s ≡ true
  type_weaker n claim p q weaker Nothing h = h
  type_weaker n claim p q weaker (Carrier ls) h = any_weaker (number_passes p) (number_passes q) (number_weaker p q weaker) ls h
  type_weaker n claim p q weaker (Struct key args) h =
      claim key (through p args) (through q args) (λ l. number_weaker p q weaker (stands_for (NonStatic l) args)) h

  weakens_more : (n : ℕ) → Weakens n → Weakens (suc n)
  weakens_more n claim key p q weaker h =
      any_weaker (type_passes (struct_passes fields_of n) p) (type_passes (struct_passes fields_of n) q) (type_weaker n claim p q weaker) (fields_of key) h

  weakens : (n : ℕ) → Weakens n
  weakens zero = λ key p q weaker h. h
  weakens (suc n) = weakens_more n (weakens n)

  -- ---- what passes does so by one number

  abbrev One : ℕ → Type 0
  One n = (key : K) (test : ℕ → Bool) → struct_passes fields_of n key test ≡ true → (d : ℕ) × (struct_passes fields_of n key (is_number d) ≡ true) × (test d ≡ true)

  one_in : (n : ℕ) → One n → (test : ℕ → Bool) (s : Skeleton K) → type_passes (struct_passes fields_of n) test s ≡ true
      → (d : ℕ) × (type_passes (struct_passes fields_of n) (is_number d) s ≡ true) × (test d ≡ true)
  one_in n claim test Nothing h = absurd (true≢false (sym h))
  one_in n claim test (Carrier ls) h =
      let found = passing_number test ls h in
      (found.0, some_passes (is_number found.0) ls found.0 (is_itself found.0) found.2, found.1)
  one_in n claim test (Struct key args) h =
      let found = claim key (through test args) h in
      let arg = passing_argument test args found.0 found.2 in (
        arg.0,
        weakens n key (is_number found.0) (through (is_number arg.0) args)
            (λ l same. subst (λ e. through (is_number arg.0) args e ≡ true) (sym (is_same found.0 l same)) (argument_passes (is_number arg.0) args found.0 arg.0 (is_itself arg.0) arg.2)) found.1,
        arg.1,
      )

  one_more : (n : ℕ) → One n → One (suc n)
  one_more n claim key test h =
      let field = any_there (type_passes (struct_passes fields_of n) test) (fields_of key) h in
      let one = one_in n claim test field.0 field.1 in
      (one.0, any_found (type_passes (struct_passes fields_of n) (is_number one.0)) (fields_of key) field.0 one.1 field.2, one.2)

  one : (n : ℕ) → One n
  one zero = λ key test h. absurd (true≢false (sym h))
  one (suc n) = one_more n (one n)

  pub one_passes : (n : ℕ) (key : K) (test : ℕ → Bool) → struct_passes fields_of n key test ≡ true → (d : ℕ) × (struct_passes fields_of n key (is_number d) ≡ true) × (test d ≡ true)
  one_passes n key test h = one n key test h

  -- and any number that does passes whatever is true of it
  pub number_does : (n : ℕ) (key : K) (test : ℕ → Bool) (d : ℕ) → struct_passes fields_of n key (is_number d) ≡ true → test d ≡ true → struct_passes fields_of n key test ≡ true
  number_does n key test d h holds = weakens n key (is_number d) test (λ l same. subst (λ e. test e ≡ true) (sym (is_same d l same)) holds) h

  -- ---- past the depth of a struct nothing more is found

  abbrev Settles : ℕ → Type 0
  Settles n = (key : K) → NestsWithin fields_of n key → (m : ℕ) → n ≤ m → (test : ℕ → Bool) → struct_passes fields_of m key test ≡ struct_passes fields_of n key test

  pub none_pass : (key : K) → fields_of key ≡ [] → (m : ℕ) (test : ℕ → Bool) → struct_passes fields_of m key test ≡ false
  none_pass key none zero test = refl
  none_pass key none (suc m) test = ap (list_any (type_passes (struct_passes fields_of m) test)) none

  settled_in : (n m : ℕ) → n ≤ m → Settles n → (test : ℕ → Bool) (s : Skeleton K) → NestsInside (NestsWithin fields_of n) s
      → type_passes (struct_passes fields_of m) test s ≡ type_passes (struct_passes fields_of n) test s
  settled_in n m more claim test Nothing nests = refl
  settled_in n m more claim test (Carrier ls) nests = refl
  settled_in n m more claim test (Struct key args) nests = claim key nests m more (through test args)

  settles_more : (n : ℕ) → Settles n → Settles (suc n)
  settles_more n claim key nests zero more test = absurd (omega (arith, more))
  settles_more n claim key nests (suc m) more test =
      any_alike (type_passes (struct_passes fields_of m) test) (type_passes (struct_passes fields_of n) test) (fields_of key)
      (All-weaker (NestsInside (NestsWithin fields_of n)) (λ s. type_passes (struct_passes fields_of m) test s ≡ type_passes (struct_passes fields_of n) test s)
      (settled_in n m (omega (arith, more)) claim test) (fields_of key) nests)

  settles : (n : ℕ) → Settles n
  settles zero = λ key none m more test. none_pass key none m test
  settles (suc n) = settles_more n (settles n)

  -- so one level more changes nothing
  pub one_level_more : (n : ℕ) (key : K) (m : ℕ) (test : ℕ → Bool) → NestsWithin fields_of n key → n ≤ m → struct_passes fields_of (suc m) key test ≡ struct_passes fields_of m key test
  one_level_more n key m test nests few =
      settles n key nests (suc m) (omega (arith, few)) test ∙ sym (settles n key nests m few test)

  pub nothing_inside : (n : ℕ) (key : K) → fields_of key ≡ [] → NestsWithin fields_of n key
  nothing_inside zero key none = none
  nothing_inside (suc n) key none = subst (All (NestsInside (NestsWithin fields_of n))) (sym none) (All-nil (NestsInside (NestsWithin fields_of n)))
