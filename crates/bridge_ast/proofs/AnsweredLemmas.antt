-- What the lists of bounds say of a node.
use Rattle.std.proofs.Common.{◌≡◌, ℕ, ◌<◌, ◌≤◌, Bool, true, false, List, [], refl, sym, ap, ◌∙◌, arith, IsTrue, ◌↔◌, nat_le, nat_eq, ◌||◌, ◌&&◌}
use Rattle.std.proofs.Common.{length, get_or, subst, inl, inr, not, None, Result, Ok, Err, is_ok}
use Rattle.std.specs.Result.{MatchResult}
use Rattle.std.specs.List.{Contains, list_all}
use Rattle.std.specs.List.Sorted.{IsNonDecreasing, IsBinarySearchResult}
use Rattle.std.specs.Ordering.{nat_cmp}
use Rattle.std.specs.Cmp.{nat_eq_equiv}
use Rattle.std.proofs.lemmas.Bool.{eqb-true, cases_lt}
use Rattle.std.proofs.lemmas.List.{get_or_default}
use Rattle.std.proofs.lemmas.List.Sorted.{searched}
use Rattle.std.proofs.lemmas.Map.Views.{list_any-from_Contains, Contains-from_any}
use Rattle.bridge_decl.specs.declared.lifetimes.LifetimeNode.{LifetimeNode}
use Rattle.bridge_ast.specs.declared.bounds.Side.{Side}
use Rattle.bridge_ast.specs.declared.bounds.Side.TheVariants.{Longer, Shorter}
use Rattle.bridge_ast.specs.declared.fault.EnvFault.{EnvFault}
use Rattle.bridge_ast.specs.declared.fault.EnvFault.TheVariants.{Bad}
use Rattle.bridge_ast.specs.declared.fault.EnvFaultKind.TheVariants.{BoundOutOfRange, BoundOneSided}
use Rattle.bridge_ast.specs.declared.fault.EnvPlace.{EnvPlace}
use Rattle.bridge_ast.specs.Bounds.{has_number, listed, listed_at, opposite_of, in_range, answered}
use Rattle.bridge_ast.specs.inside.BoundLists.{AreListers}
use Rattle.bridge_ast.specs.EnvFaults.{IsFirst, Tells, where_so, bound_faults}
use Rattle.bridge_ast.proofs.EachLemmas.{tells_after, first_front}

pub same_bool : (a b : Bool) → (IsTrue a → IsTrue b) → (IsTrue b → IsTrue a) → a ≡ b
same_bool true true f g = refl
same_bool true false f g = absurd (let e = f refl in cc)
same_bool false true f g = absurd (let e = g refl in cc)
same_bool false false f g = refl

nat_same : (x y : ℕ) → nat_eq x y ≡ true → x ≡ y
nat_same x y h = eqb-true x y h

pub has : (n : ℕ) (numbers : List ℕ) → (has_number n numbers ≡ true) ↔ Contains numbers n
has n numbers = (Contains-from_any nat_same n numbers, list_any-from_Contains nat_eq_equiv n numbers)

list_all-same : (p q : ℕ → Bool) (xs : List ℕ) → ((x : ℕ) → p x ≡ q x) → list_all p xs ≡ list_all q xs
list_all-same p q xs same = ap (λ r. list_all r xs) (λ i x. same x i)

-- ---- what a search of an ascending list finds

abbrev Found : List ℕ → ℕ → Result ℕ ℕ → Type 0
Found xs x r = MatchResult r (λ i. (i < length xs) × (get_or xs i 0 ≡ x))
    (λ i. (i ≤ length xs) × ((k : ℕ) → k < i → get_or xs k 0 < x) × ((k : ℕ) → i ≤ k → k < length xs → x < get_or xs k 0))

not_there : (xs : List ℕ) (x i : ℕ) → ((k : ℕ) → k < i → get_or xs k 0 < x)
    → ((k : ℕ) → i ≤ k → k < length xs → x < get_or xs k 0) → Contains xs x → ⊥
not_there xs x i below above (k, within, at) =
    let here : get_or xs k 0 ≡ x = get_or_default xs k 0 x within ∙ at in
    elim (cases_lt k i) [
      | inl lower ↦ (let e = below k lower in omega arith)
      | inr higher ↦ (let e = above k higher within in omega arith)
    ]

found_is : (xs : List ℕ) (x : ℕ) (r : Result ℕ ℕ) → Found xs x r → is_ok r ≡ has_number x xs
found_is xs x (Ok i) (within, at) = sym ((has x xs).1 (i, within, sym (get_or_default xs i 0 x within) ∙ at))
found_is xs x (Err i) (_, below, above) =
    same_bool false (has_number x xs) (λ e. absurd cc)
    (λ there. absurd (not_there xs x i below above ((has x xs).0 there)))

pub search_finds : (xs : List ℕ) (x : ℕ) (r : Result ℕ ℕ) (b : Bool) → b ≡ is_ok r → IsBinarySearchResult (λ y. nat_cmp y x) xs r
    → IsNonDecreasing xs → b ≡ has_number x xs
search_finds xs x r b is finds ascend = is ∙ found_is xs x r (searched xs x r finds (λ i j up within. ascend i j 0 up within))

-- ---- what the lists of a node answer

pub both_of : (a b c d : Bool) → a ≡ c → b ≡ d → a ≡ true → b ≡ c && d
both_of a b c d same other is = other ∙ ap (λ x. x && d) (sym is ∙ same)

pub neither_of : (a c d : Bool) → a ≡ c → a ≡ false → a ≡ c && d
neither_of a c d same is = is ∙ ap (λ x. x && d) (sym is ∙ same)

-- what its list on a side says of the numbers that it lists on the other
pub answered_by : (side : Side) (nodes : List LifetimeNode) (lists : List (List ℕ)) (listers : List ℕ) (count number : ℕ)
    (numbers : List ℕ) → count ≡ length nodes → number < length nodes → listers ≡ get_or lists number []
    → AreListers side nodes lists → list_all (λ to. nat_le count to || has_number to listers) numbers
    ≡ list_all (λ to. nat_le (length nodes) to || has_number number (listed_at side nodes to)) numbers
answered_by side nodes lists listers count number numbers counted within are h =
    list_all-same _ _ numbers
    (λ to. let these = h.has to number within in
    ap (λ n. nat_le n to || has_number to listers) counted
    ∙ ap (λ b. nat_le (length nodes) to || b)
    (same_bool (has_number to listers) (has_number number (listed_at side nodes to))
    (λ e. (has number (listed_at side nodes to)).1 (these.0 (subst (λ z. Contains z to) are ((has to listers).0 e))))
    (λ e. (has to listers).1 (subst (λ z. Contains z to) (sym are) (these.1 ((has number (listed_at side nodes to)).0 e))))))

pub answered_on : (side : Side) (r : Bool) (nodes : List LifetimeNode) (lists : List (List ℕ)) (listers : List ℕ)
    (count number : ℕ) (numbers : List ℕ) (node : LifetimeNode)
    → (IsNonDecreasing listers → r ≡ list_all (λ to. nat_le count to || has_number to listers) numbers)
    → numbers ≡ listed side node → count ≡ length nodes → number < length nodes → listers ≡ get_or lists number []
    → AreListers (opposite_of side) nodes lists → r ≡ answered side nodes number node
answered_on side r nodes lists listers count number numbers node is these counted within are h =
    is (subst IsNonDecreasing (sym are) (h.ascends number))
    ∙ answered_by (opposite_of side) nodes lists listers count number numbers counted within are h
    ∙ ap (list_all (λ to. nat_le (length nodes) to || has_number number (listed_at (opposite_of side) nodes to))) these

module _ {X : Type 0} (r : Result X EnvFault) (here : EnvPlace) (nodes : List LifetimeNode) (number : ℕ) (node : LifetimeNode)
    (a b : Bool) where
  -- a node whose numbers are in range
  pub bounds_told : a ≡ in_range Longer nodes node && in_range Shorter nodes node
      → b ≡ answered Longer nodes number node && answered Shorter nodes number node
      → where_so (not a) (Bad BoundOutOfRange here None) ≡ [] → Tells r (where_so (not b) (Bad BoundOneSided here None))
      → Tells r (bound_faults here nodes number node)
  bounds_told ranged two_sided none tells =
      tells_after r (where_so (not (in_range Longer nodes node && in_range Shorter nodes node)) (Bad BoundOutOfRange here None))
      (where_so (not (answered Longer nodes number node && answered Shorter nodes number node)) (Bad BoundOneSided here None))
      (subst (λ x. where_so (not x) (Bad BoundOutOfRange here None) ≡ []) ranged none)
      (subst (λ x. Tells r (where_so (not x) (Bad BoundOneSided here None))) two_sided tells)

-- and one with a number that isn't
pub bounds_stopped : (fault : EnvFault) (here : EnvPlace) (nodes : List LifetimeNode) (number : ℕ) (node : LifetimeNode)
    (a : Bool) → a ≡ in_range Longer nodes node && in_range Shorter nodes node
    → IsFirst fault (where_so (not a) (Bad BoundOutOfRange here None)) → IsFirst fault (bound_faults here nodes number node)
bounds_stopped fault here nodes number node a ranged first =
    first_front fault (where_so (not (in_range Longer nodes node && in_range Shorter nodes node)) (Bad BoundOutOfRange here None))
    (where_so (not (answered Longer nodes number node && answered Shorter nodes number node)) (Bad BoundOneSided here None))
    (subst (λ x. IsFirst fault (where_so (not x) (Bad BoundOutOfRange here None))) ranged first)
