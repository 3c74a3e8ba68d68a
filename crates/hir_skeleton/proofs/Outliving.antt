-- Lists, by what outlives.
use Rattle.std.proofs.Common.{◌≡◌, inl, inr, ℕ, Bool, true, false, true≢false, cond, List, [], ◌∷◌, refl, sym, ap, ◌∙◌, subst}
use Rattle.std.specs.List.{Contains, filter}
use Rattle.hir_life.specs.Outlives.{Outlives}
use Rattle.hir_life.specs.declared.maybe_static.MaybeStatic.TheVariants.{NonStatic}
use Rattle.hir_skeleton.specs.Leaves.{DeepLeaf, TellsLonger, leaf_passes, listed_paths}
use Rattle.hir_skeleton.proofs.Members.{none_in_nothing, first_is_there, later_is_there, member_cases, mapped_is_there, mapped_from}
use Rattle.hir_skeleton.proofs.Passing.{passing_number, some_passes}

kept_or_not : {A : Type 0} (p : A → Bool) (x : A) (xs : List A) (y : A) (b : Bool) → p x ≡ b → Contains (cond b (x ∷ filter p xs) (filter p xs)) y
    → (Contains (filter p xs) y → Contains xs y × (p y ≡ true)) → Contains (x ∷ xs) y × (p y ≡ true)
kept_or_not p x xs y true passes h more =
    elim (member_cases x y (filter p xs) h) [
      | inl is ↦ (subst (λ z. Contains (x ∷ xs) z) is (first_is_there x xs), ap p (sym is) ∙ passes)
      | inr later ↦ let found = more later in (later_is_there x y xs found.0, found.1)
    ]
kept_or_not p x xs y false fails h more = let found = more h in (later_is_there x y xs found.0, found.1)

filtered : {A : Type 0} (p : A → Bool) (xs : List A) (y : A) → Contains (filter p xs) y → Contains xs y × (p y ≡ true)
filtered p [] y h = absurd (none_in_nothing y h)
filtered p (x ∷ xs) y h = kept_or_not p x xs y (p x) refl h (filtered p xs y)

first_kept : {A : Type 0} (p : A → Bool) (x : A) (xs : List A) (b : Bool) → b ≡ true → Contains (cond b (x ∷ xs) xs) x
first_kept p x xs true passes = first_is_there x xs
first_kept p x xs false passes = absurd (true≢false (sym passes))

later_kept : {A : Type 0} (x y : A) (xs : List A) (b : Bool) → Contains xs y → Contains (cond b (x ∷ xs) xs) y
later_kept x y xs true h = later_is_there x y xs h
later_kept x y xs false h = h

kept : {A : Type 0} (p : A → Bool) (xs : List A) (y : A) → Contains xs y → p y ≡ true → Contains (filter p xs) y
kept p [] y h passes = absurd (none_in_nothing y h)
kept p (x ∷ xs) y h passes =
    elim (member_cases x y xs h) [
      | inl is ↦ subst (λ z. Contains (filter p (x ∷ xs)) z) is (first_kept p x (filter p xs) (p x) (ap p is ∙ passes))
      | inr later ↦ later_kept x y (filter p xs) (p x) (kept p xs y later passes)
    ]

module _ (longer : ℕ → List ℕ) (t : ℕ) (test : ℕ → Bool) (tells : TellsLonger longer t test) (leaves : List DeepLeaf) (path : List ℕ) where
  abbrev pub LeafThere : Type 0
  LeafThere =
      (leaf : DeepLeaf) × Contains leaves leaf × (leaf.path ≡ path) × (l : ℕ) × Contains leaf.carried (NonStatic l) × Outlives longer l t

  pub listed_outlive : Contains (listed_paths test leaves) path → LeafThere
  listed_outlive h =
      let found = mapped_from (λ (leaf : DeepLeaf). leaf.path) (filter (leaf_passes test) leaves) path h in
      let kept_one = filtered (leaf_passes test) leaves found.0 found.2 in
      let number = passing_number test found.0.carried kept_one.1 in
      (found.0, kept_one.0, found.1, number.0, number.2, (tells number.0).0 number.1)

  pub outliving_listed : LeafThere → Contains (listed_paths test leaves) path
  outliving_listed h =
      subst (λ p. Contains (listed_paths test leaves) p) h.2
      (mapped_is_there (λ (leaf : DeepLeaf). leaf.path) (filter (leaf_passes test) leaves) h.0
      (kept (leaf_passes test) leaves h.0 h.1 (some_passes test h.0.carried h.3 ((tells h.3).1 h.5) h.4)))
