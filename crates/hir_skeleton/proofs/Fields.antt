-- What fields give, put together.
use Rattle.std.proofs.Common.{◌≡◌, inl, inr, ℕ, zero, suc, ◌+◌, Bool, true, false, cond, List, [], ◌∷◌, ◌++◌, map, Some, slice_get, refl, sym, ap, ◌∙◌, subst, arith}
use Rattle.std.specs.List.{Contains, flat_map, filter, enumerate_from}
use Rattle.std.proofs.lemmas.List.{map-append}
use Rattle.std.proofs.lemmas.List.Elements.{Contains-append_left, Contains-append_right, Contains-append_cases, filter-append}
use Rattle.hir_skeleton.specs.Skeletons.{Skeleton}
use Rattle.hir_skeleton.specs.Leaves.{DeepLeaf, in_field, leaf_passes, listed_paths}
use Rattle.hir_skeleton.proofs.Members.{none_in_nothing, mapped_is_there, mapped_from}
use Rattle.std.proofs.lemmas.Option.{none-some, same_Some}

-- fields from the number m on
abbrev pub fields_from : {K A : Type 0} → (ℕ → A → A) → (Skeleton K → List A) → ℕ → List (Skeleton K) → List A
fields_from below f m fields = flat_map (λ field. map (below field.0) (f field.1)) (enumerate_from m fields)

-- a list of two lists of leaves, and of leaves in a field
pub listed_both : (test : ℕ → Bool) (xs ys : List DeepLeaf) → listed_paths test (xs ++ ys) ≡ listed_paths test xs ++ listed_paths test ys
listed_both test xs ys =
    ap (λ leaves. map (λ (leaf : DeepLeaf). leaf.path) leaves) (filter-append (leaf_passes test) xs ys)
    ∙ map-append (λ (leaf : DeepLeaf). leaf.path) (filter (leaf_passes test) xs) (filter (leaf_passes test) ys)

one_more : (m : ℕ) (b : Bool) (x : DeepLeaf) (kept kept_below : List DeepLeaf) → map (λ leaf. leaf.path) kept_below ≡ map (λ p. m ∷ p) (map (λ leaf. leaf.path) kept)
    → map (λ leaf. leaf.path) (cond b (in_field m x ∷ kept_below) kept_below) ≡ map (λ p. m ∷ p) (map (λ leaf. leaf.path) (cond b (x ∷ kept) kept))
one_more m true x kept kept_below e = ap (λ ps. (m ∷ x.path) ∷ ps) e
one_more m false x kept kept_below e = e

pub listed_in_field : (test : ℕ → Bool) (m : ℕ) (xs : List DeepLeaf) → listed_paths test (map (in_field m) xs) ≡ map (λ p. m ∷ p) (listed_paths test xs)
listed_in_field test m [] = refl
listed_in_field test m (x ∷ xs) =
    one_more m (leaf_passes test x) x (filter (leaf_passes test) xs) (filter (leaf_passes test) (map (in_field m) xs)) (listed_in_field test m xs)

pub listed_fields : {K : Type 0} (test : ℕ → Bool) (f : Skeleton K → List DeepLeaf) (m : ℕ) (fields : List (Skeleton K)) → listed_paths test (fields_from in_field f m fields) ≡ fields_from (λ i p. i ∷ p) (λ s. listed_paths test (f s)) m fields
listed_fields test f m [] = refl
listed_fields test f m (s ∷ fields) =
    listed_both test (map (in_field m) (f s)) (fields_from in_field f (m + 1) fields)
    ∙ (λ i. listed_in_field test m (f s) i ++ listed_fields test f (m + 1) fields i)

-- a path that a field gives
pub record FromField {K : Type 0} (f : Skeleton K → List (List ℕ)) (m : ℕ) (fields : List (Skeleton K)) (path : List ℕ) : Type 0 where
  pub number : ℕ
  pub rest : List ℕ
  pub field : Skeleton K
  pub is : (m + number) ∷ rest ≡ path
  pub at : slice_get fields number ≡ Some field
  pub gives : Contains (f field) rest

pub path_of_field : {K : Type 0} (f : Skeleton K → List (List ℕ)) (m : ℕ) (fields : List (Skeleton K)) (path : List ℕ) → Contains (fields_from (λ i p. i ∷ p) f m fields) path → FromField f m fields path
path_of_field f m [] path h = absurd (none_in_nothing path h)
path_of_field f m (s ∷ fields) path h =
    elim (Contains-append_cases (map (λ p. m ∷ p) (f s)) (fields_from (λ i p. i ∷ p) f (m + 1) fields) path h) [
      | inl here ↦ let found = mapped_from (λ p. m ∷ p) (f s) path here in
          let same : m + 0 ≡ m = omega arith in
          record { number = 0; rest = found.0; field = s; is = ap (λ n. n ∷ found.0) same ∙ found.1; at = refl; gives = found.2 }
      | inr later ↦ let found = path_of_field f (m + 1) fields path later in
          let same : m + suc found.number ≡ m + 1 + found.number = omega arith in
          record { number = suc found.number; rest = found.rest; field = found.field; is = ap (λ n. n ∷ found.rest) same ∙ found.is; at = found.at; gives = found.gives }
    ]

pub field_gives : {K : Type 0} (f : Skeleton K → List (List ℕ)) (m : ℕ) (fields : List (Skeleton K)) (n : ℕ) (rest : List ℕ) (field : Skeleton K) → slice_get fields n ≡ Some field → Contains (f field) rest
    → Contains (fields_from (λ i p. i ∷ p) f m fields) ((m + n) ∷ rest)
field_gives f m [] n rest field at h = absurd (none-some field at)
field_gives f m (s ∷ fields) zero rest field at h =
    let same : m + 0 ≡ m = omega arith in
    Contains-append_left (map (λ p. m ∷ p) (f s)) _ _ (subst (λ k. Contains (map (λ p. m ∷ p) (f s)) (k ∷ rest)) (sym same) (mapped_is_there (λ p. m ∷ p) (f s) rest (subst (λ z. Contains (f z) rest) (sym (same_Some s field at)) h)))
field_gives f m (s ∷ fields) (suc n) rest field at h =
    let same : m + 1 + n ≡ m + suc n = omega arith in
    Contains-append_right (map (λ p. m ∷ p) (f s)) _ _ (subst (λ k. Contains (fields_from (λ i p. i ∷ p) f (m + 1) fields) (k ∷ rest)) same (field_gives f (m + 1) fields n rest field at h))
