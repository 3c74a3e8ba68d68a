-- Whether a struct has leaves doesn't depend on what it is given.
use Rattle.std.proofs.Common.{◌≡◌, ◌+◌, ℕ, zero, suc, Bool, true, ◌||◌, subst, List, [], ◌∷◌, length, map, refl, sym, arith, length-append}
use Rattle.std.specs.BTreeSet.{insert_key}
use Rattle.std.specs.Ordering.{is_eq, nat_cmp, ordering_then, match_ordering}
use Rattle.std.specs.declared.cmp.Ordering.{Ordering}
use Rattle.std.specs.declared.cmp.Ordering.TheVariants.{Less, Equal, Greater}
use Rattle.std.specs.BTreeMap.{is_at}
use Rattle.std.specs.List.{All, list_any}
use Rattle.std.proofs.lemmas.List.{length-map}
use Rattle.std.proofs.lemmas.Map.Lookups.{exact_unsigned}
use Rattle.std.proofs.lemmas.List.Elements.{All-head, All-tail, All-cons, All-nil}
use Rattle.hir_skeleton.specs.NamedLeaves.{NamedLeaf}
use Rattle.hir_life.specs.declared.maybe_static.MaybeStatic.{MaybeStatic}
use Rattle.hir_life.specs.Substitution.{subst_each}
use Rattle.hir_skeleton.specs.Skeletons.{Skeleton, Nothing, Carrier, Struct}
use Rattle.hir_borrowing_fields.specs.inside.Walks.{NamedSkeleton, behind, leaves_from, leaves_of_struct, leaves_of_type, step_into}

module _ {K : Type 0} (named_in : K → List (NamedSkeleton K)) where
  -- as many leaves whatever is given
  abbrev pub AsMany : ℕ → Type 0
  AsMany n = (key : K) (args other : List (MaybeStatic ℕ)) → length (leaves_of_struct named_in n key args) ≡ length (leaves_of_struct named_in n key other)

  of_type : (n : ℕ) → AsMany n → (args other : List (MaybeStatic ℕ)) (s : Skeleton K) → length (leaves_of_type (leaves_of_struct named_in n) args s) ≡ length (leaves_of_type (leaves_of_struct named_in n) other s)
  of_type n claim args other Nothing = refl
  of_type n claim args other (Carrier ls) = refl
  of_type n claim args other (Struct key given) = claim key (subst_each given args) (subst_each given other)

  of_each : (f g : Skeleton K → List NamedLeaf) → ((s : Skeleton K) → length (f s) ≡ length (g s)) → (m : ℕ) (fields : List (NamedSkeleton K)) → length (leaves_from m f fields) ≡ length (leaves_from m g fields)
  of_each f g same m [] = refl
  of_each f g same m (one ∷ fields) =
      let step = step_into (m, one) in
      let first = length-append (map (behind (step ∷ [])) (f one.skeleton)) (leaves_from (m + 1) f fields) in
      let second = length-append (map (behind (step ∷ [])) (g one.skeleton)) (leaves_from (m + 1) g fields) in
      let here = length-map (f one.skeleton) (behind (step ∷ [])) in
      let there = length-map (g one.skeleton) (behind (step ∷ [])) in
      let like = same one.skeleton in
      let rest = of_each f g same (m + 1) fields in
      omega (arith, first, second, here, there, like, rest)

  more : (n : ℕ) → AsMany n → AsMany (suc n)
  more n claim key args other =
      of_each (leaves_of_type (leaves_of_struct named_in n) args) (leaves_of_type (leaves_of_struct named_in n) other) (of_type n claim args other) 0 (named_in key)

  pub as_many : (n : ℕ) → AsMany n
  as_many zero = λ key args other. refl
  as_many (suc n) = more n (as_many n)

none_of_none : {A : Type 0} (xs : List A) → length xs ≡ 0 → xs ≡ []
none_of_none [] h = refl
none_of_none (x ∷ xs) h = absurd (omega (arith, h))

-- so what has none with some arguments has none with any
pub none_whatever : {K : Type 0} (named_in : K → List (NamedSkeleton K)) (n : ℕ) (key : K) (args other : List (MaybeStatic ℕ)) → length (leaves_of_struct named_in n key args) ≡ 0 → leaves_of_struct named_in n key other ≡ []
none_whatever named_in n key args other none =
    let same = as_many named_in n key args other in
    none_of_none (leaves_of_struct named_in n key other) (omega (arith, same, none))

-- two visits that compare as equal are the same
same_numbers : (a b : ℕ) → nat_cmp a b ≡ Equal → a ≡ b
same_numbers a b is = exact_unsigned a b is

abbrev pub visit_cmp : ℕ × ℕ → ℕ × ℕ → Ordering
visit_cmp one other = ordering_then (nat_cmp one.0 other.0) (nat_cmp one.1 other.1)

then_equal : (first second : Ordering) → ordering_then first second ≡ Equal → (first ≡ Equal) × (second ≡ Equal)
then_equal Less second is = absurd cc
then_equal Equal second is = (refl, is)
then_equal Greater second is = absurd cc

same_visits : (one other : ℕ × ℕ) → visit_cmp one other ≡ Equal → one ≡ other
same_visits one other is =
    let both = then_equal (nat_cmp one.0 other.0) (nat_cmp one.1 other.1) is in
    λ i. (same_numbers one.0 other.0 both.0 i, same_numbers one.1 other.1 both.1 i)

module _ (P : ℕ × ℕ → Type 0) where
  at_its_place : (o : Ordering) (visit other : ℕ × ℕ) (others more : List (ℕ × ℕ)) → P visit → P other → All P others → All P more → All P (match_ordering o (visit ∷ other ∷ others) (other ∷ others) (other ∷ more))
  at_its_place Less visit other others more here there rest grown = All-cons P visit (other ∷ others) here (All-cons P other others there rest)
  at_its_place Equal visit other others more here there rest grown = All-cons P other others there rest
  at_its_place Greater visit other others more here there rest grown = All-cons P other more there grown

  -- what holds of the visits of a set and of one more holds of all
  pub all_with : (visits : List (ℕ × ℕ)) (visit : ℕ × ℕ) → All P visits → P visit → All P (insert_key visit_cmp visits visit)
  all_with [] visit all here = All-cons P visit [] here (All-nil P)
  all_with (other ∷ others) visit all here =
      at_its_place (visit_cmp visit other) visit other others (insert_key visit_cmp others visit) here (All-head P other others all) (All-tail P other others all)
      (all_with others visit (All-tail P other others all) here)

  first_or_later : (o : Ordering) (visit other : ℕ × ℕ) (later : Bool) → visit_cmp visit other ≡ o → P other → (later ≡ true → P visit) → (is_eq o || later) ≡ true → P visit
  first_or_later Less visit other later is there rest has = rest has
  first_or_later Equal visit other later is there rest has = subst P (sym (same_visits visit other is)) there
  first_or_later Greater visit other later is there rest has = rest has

  -- and of each visit that the set has
  pub holds_of_known : (visits : List (ℕ × ℕ)) (visit : ℕ × ℕ) → All P visits → list_any (is_at (visit_cmp visit)) visits ≡ true → P visit
  holds_of_known [] visit all has = absurd cc
  holds_of_known (other ∷ others) visit all has =
      first_or_later (visit_cmp visit other) visit other (list_any (is_at (visit_cmp visit)) others) refl (All-head P other others all)
      (holds_of_known others visit (All-tail P other others all)) has
