-- Leaves under arguments that are substituted, and lists as tests of definitions.
use Rattle.std.proofs.Common.{◌≡◌, ℕ, zero, suc, ◌+◌, Bool, true, false, cond, List, [], ◌∷◌, ◌++◌, map, refl, sym, ap, ◌∙◌}
use Rattle.std.specs.List.{list_any}
use Rattle.std.proofs.lemmas.List.{map-append}
use Rattle.hir_life.specs.Substitution.{subst, subst_each}
use Rattle.hir_life.specs.declared.maybe_static.MaybeStatic.{MaybeStatic}
use Rattle.hir_skeleton.specs.Skeletons.{Skeleton, Nothing, Carrier, Struct}
use Rattle.hir_skeleton.specs.Leaves.{DeepLeaf, each_once, given_leaf, in_field, type_leaves, struct_leaves, number_passes, listed_paths, through}
use Rattle.hir_skeleton.proofs.Passing.{through_twice, each_through, any_through}
use Rattle.hir_skeleton.proofs.Once.{any_once, once_mapped}
use Rattle.hir_skeleton.proofs.Fields.{fields_from, listed_fields}

given_both : (args : List (MaybeStatic ℕ)) (i : ℕ) (leaves : List DeepLeaf) → map (given_leaf args) (map (in_field i) leaves) ≡ map (in_field i) (map (given_leaf args) leaves)
given_both args i [] = refl
given_both args i (leaf ∷ leaves) = ap (λ rest. in_field i (given_leaf args leaf) ∷ rest) (given_both args i leaves)

given_fields : {K : Type 0} (args : List (MaybeStatic ℕ)) (f : Skeleton K → List DeepLeaf) (m : ℕ) (fields : List (Skeleton K)) → map (given_leaf args) (fields_from in_field f m fields) ≡ fields_from in_field (λ s. map (given_leaf args) (f s)) m fields
given_fields args f m [] = refl
given_fields args f m (s ∷ fields) =
    map-append (given_leaf args) (map (in_field m) (f s)) (fields_from in_field f (m + 1) fields)
    ∙ (λ i. given_both args m (f s) i ++ given_fields args f (m + 1) fields i)

module _ {K : Type 0} (fields_of : K → List (Skeleton K)) where
  abbrev pub Composes : ℕ → Type 0
  Composes n = (key : K) (given args : List (MaybeStatic ℕ)) → struct_leaves fields_of n key (subst_each given args) ≡ map (given_leaf args) (struct_leaves fields_of n key given)

  pub composes_in : (n : ℕ) → Composes n → (given args : List (MaybeStatic ℕ)) (s : Skeleton K) → type_leaves (struct_leaves fields_of n) (subst_each given args) s ≡ map (given_leaf args) (type_leaves (struct_leaves fields_of n) given s)
  composes_in n claim given args Nothing = refl
  composes_in n claim given args (Carrier ls) =
      ap (λ carried. record { path = []; carried = carried } ∷ [])
      (ap each_once (sym (each_through given args ls)) ∙ sym (once_mapped (λ l. subst l args) (subst_each ls given)))
  composes_in n claim given args (Struct key own) =
      ap (struct_leaves fields_of n key) (sym (each_through given args own)) ∙ claim key (subst_each own given) args

  composes_more : (n : ℕ) → Composes n → Composes (suc n)
  composes_more n claim key given args =
      ap (λ f. fields_from in_field f 0 (fields_of key)) (λ i s. composes_in n claim given args s i)
      ∙ sym (given_fields args (type_leaves (struct_leaves fields_of n) given) 0 (fields_of key))

  pub composes : (n : ℕ) → Composes n
  composes zero = λ key given args. refl
  composes (suc n) = composes_more n (composes n)

  -- the paths in a type and in a struct whose lifetimes are tested
  abbrev pub type_paths : (K → (ℕ → Bool) → List (List ℕ)) → (ℕ → Bool) → Skeleton K → List (List ℕ)
  type_paths of_struct test Nothing = []
  type_paths of_struct test (Carrier ls) = cond (list_any (number_passes test) ls) ([] ∷ []) []
  type_paths of_struct test (Struct key args) = of_struct key (through test args)

  abbrev pub struct_paths : ℕ → K → (ℕ → Bool) → List (List ℕ)
  struct_paths zero key test = []
  struct_paths (suc n) key test = fields_from (λ i p. i ∷ p) (type_paths (struct_paths n) test) 0 (fields_of key)

  abbrev pub Lists : (ℕ → Bool) → ℕ → Type 0
  Lists test n = (key : K) (args : List (MaybeStatic ℕ)) → listed_paths test (struct_leaves fields_of n key args) ≡ struct_paths n key (through test args)

  one_leaf : (b : Bool) (leaf : DeepLeaf) → map (λ l. l.path) (cond b (leaf ∷ []) []) ≡ cond b (leaf.path ∷ []) []
  one_leaf true leaf = refl
  one_leaf false leaf = refl

  pub lists_in : (test : ℕ → Bool) (n : ℕ) → Lists test n → (args : List (MaybeStatic ℕ)) (s : Skeleton K) → listed_paths test (type_leaves (struct_leaves fields_of n) args s) ≡ type_paths (struct_paths n) (through test args) s
  lists_in test n claim args Nothing = refl
  lists_in test n claim args (Carrier ls) =
      one_leaf (list_any (number_passes test) (each_once (subst_each ls args))) (record { path = []; carried = each_once (subst_each ls args) })
      ∙ ap (λ b. cond b ([] ∷ []) []) (any_once (number_passes test) (subst_each ls args) ∙ sym (any_through test args ls))
  lists_in test n claim args (Struct key given) =
      claim key (subst_each given args) ∙ ap (struct_paths n key) (sym (through_twice test args given))

  lists_more : (test : ℕ → Bool) (n : ℕ) → Lists test n → Lists test (suc n)
  lists_more test n claim key args =
      listed_fields test (type_leaves (struct_leaves fields_of n) args) 0 (fields_of key)
      ∙ ap (λ f. fields_from (λ i p. i ∷ p) f 0 (fields_of key)) (λ i s. lists_in test n claim args s i)

  pub lists : (test : ℕ → Bool) (n : ℕ) → Lists test n
  lists test zero = λ key args. refl
  lists test (suc n) = lists_more test n (lists test n)
