-- The set that grows by the numbers of lifetimes has these and no others.
use Rattle.std.proofs.Common.{◌≡◌, ℕ, List, [], ◌∷◌, ◌++◌, ◌⊎◌, inl, inr, subst, sym, refl, arith}
use Rattle.std.specs.List.{Contains}
use Rattle.std.specs.List.Sorted.{IsStrictlySortedBy}
use Rattle.std.specs.Ordering.{nat_cmp, match_ordering}
use Rattle.std.specs.declared.cmp.Ordering.{Ordering}
use Rattle.std.specs.declared.cmp.Ordering.TheVariants.{Less, Equal, Greater}
use Rattle.std.specs.BTreeSet.{insert_key}
use Rattle.std.proofs.lemmas.List.Elements.{Contains-append_left, Contains-append_right, Contains-append_cases, Contains-push, Contains-push_cases}
use Rattle.std.proofs.lemmas.Map.Keys.{IsStrictlyIncreasing-from_sorted}
use Rattle.std.proofs.lemmas.Map.Lookups.{exact_unsigned}
use Rattle.hir_life.specs.declared.maybe_static.MaybeStatic.{MaybeStatic}
use Rattle.hir_life.specs.declared.maybe_static.MaybeStatic.TheVariants.{Static, NonStatic}
use Rattle.hir_types.specs.Named.{ListsNumbers}
use Rattle.hir_types.specs.inside.Numbers.{with_number, with_numbers}

none_in : {X : Type 0} (x : X) → Contains [] x → ⊥
none_in x h = omega (arith, h.1)

here : {X : Type 0} (x : X) (xs : List X) → Contains (x ∷ xs) x
here x xs = Contains-append_left (x ∷ []) xs x (Contains-push [] x)

later : {X : Type 0} (x : X) (xs : List X) (y : X) → Contains xs y → Contains (x ∷ xs) y
later x xs y h = Contains-append_right (x ∷ []) xs y h

only : {X : Type 0} (x y : X) → Contains (x ∷ []) y → x ≡ y
only x y h = elim (Contains-push_cases [] x y h) [ inl n ↦ absurd (none_in y n) | inr e ↦ e ]

cases : {X : Type 0} (x : X) (xs : List X) (y : X) → Contains (x ∷ xs) y → (x ≡ y) ⊎ Contains xs y
cases x xs y h = elim (Contains-append_cases (x ∷ []) xs y h) [ inl e ↦ inl (only x y e) | inr r ↦ inr r ]

-- what is in the list after an insertion, by what the comparison answers
placed_from : (o : Ordering) (k x l : ℕ) (xs more : List ℕ) → (Contains more l → (k ≡ l) ⊎ Contains xs l) → Contains (match_ordering o (k ∷ x ∷ xs) (x ∷ xs) (x ∷ more)) l → (k ≡ l) ⊎ Contains (x ∷ xs) l
placed_from Less k x l xs more step h = cases k (x ∷ xs) l h
placed_from Equal k x l xs more step h = inr h
placed_from Greater k x l xs more step h = elim (cases x more l h) [ inl e ↦ inr (subst (λ y. Contains (x ∷ xs) y) e (here x xs)) | inr r ↦ elim (step r) [ inl e ↦ inl e | inr s ↦ inr (later x xs l s) ] ]

placed_kept : (o : Ordering) (k x l : ℕ) (xs more : List ℕ) → (Contains xs l → Contains more l) → Contains (x ∷ xs) l → Contains (match_ordering o (k ∷ x ∷ xs) (x ∷ xs) (x ∷ more)) l
placed_kept Less k x l xs more step h = later k (x ∷ xs) l h
placed_kept Equal k x l xs more step h = h
placed_kept Greater k x l xs more step h = elim (cases x xs l h) [ inl e ↦ subst (λ y. Contains (x ∷ more) y) e (here x more) | inr r ↦ later x more l (step r) ]

placed_new : (o : Ordering) (k x : ℕ) (xs more : List ℕ) → (o ≡ Equal → k ≡ x) → Contains more k → Contains (match_ordering o (k ∷ x ∷ xs) (x ∷ xs) (x ∷ more)) k
placed_new Less k x xs more exact step = here k (x ∷ xs)
placed_new Equal k x xs more exact step = subst (λ y. Contains (x ∷ xs) y) (sym (exact refl)) (here x xs)
placed_new Greater k x xs more exact step = later x more k step

insert_from : (k l : ℕ) (ks : List ℕ) → Contains (insert_key nat_cmp ks k) l → (k ≡ l) ⊎ Contains ks l
insert_from k l [] h = inl (only k l h)
insert_from k l (x ∷ xs) h = placed_from (nat_cmp k x) k x l xs (insert_key nat_cmp xs k) (λ r. insert_from k l xs r) h

insert_kept : (k l : ℕ) (ks : List ℕ) → Contains ks l → Contains (insert_key nat_cmp ks k) l
insert_kept k l [] h = absurd (none_in l h)
insert_kept k l (x ∷ xs) h = placed_kept (nat_cmp k x) k x l xs (insert_key nat_cmp xs k) (λ r. insert_kept k l xs r) h

insert_new : (k : ℕ) (ks : List ℕ) → Contains (insert_key nat_cmp ks k) k
insert_new k [] = here k []
insert_new k (x ∷ xs) = placed_new (nat_cmp k x) k x xs (insert_key nat_cmp xs k) (λ e. exact_unsigned k x e) (insert_new k xs)

-- the numbers come from the set before or from the lifetimes, and all of these are in the set
from_numbers : (l : ℕ) (ks : List ℕ) (ls : List (MaybeStatic ℕ)) → Contains (with_numbers ks ls) l → Contains ks l ⊎ Contains ls (NonStatic l)
from_numbers l ks [] h = inl h
from_numbers l ks (Static ∷ ls) h = elim (from_numbers l ks ls h) [ inl k ↦ inl k | inr r ↦ inr (later Static ls (NonStatic l) r) ]
from_numbers l ks (NonStatic n ∷ ls) h = elim (from_numbers l (insert_key nat_cmp ks n) ls h) [ inl k ↦ elim (insert_from n l ks k) [ inl e ↦ inr (subst (λ y. Contains (NonStatic n ∷ ls) (NonStatic y)) e (here (NonStatic n) ls)) | inr s ↦ inl s ] | inr r ↦ inr (later (NonStatic n) ls (NonStatic l) r) ]

kept_numbers : (l : ℕ) (ks : List ℕ) (ls : List (MaybeStatic ℕ)) → Contains ks l → Contains (with_numbers ks ls) l
kept_numbers l ks [] h = h
kept_numbers l ks (Static ∷ ls) h = kept_numbers l ks ls h
kept_numbers l ks (NonStatic n ∷ ls) h = kept_numbers l (insert_key nat_cmp ks n) ls (insert_kept n l ks h)

in_numbers : (l : ℕ) (ks : List ℕ) (ls : List (MaybeStatic ℕ)) → Contains ls (NonStatic l) → Contains (with_numbers ks ls) l
in_numbers l ks [] h = absurd (none_in (NonStatic l) h)
in_numbers l ks (Static ∷ ls) h = elim (cases Static ls (NonStatic l) h) [ inl e ↦ absurd (cc) | inr r ↦ in_numbers l ks ls r ]
in_numbers l ks (NonStatic n ∷ ls) h =
    elim (cases (NonStatic n) ls (NonStatic l) h) [
      | inl e ↦ let same : n ≡ l = cc in kept_numbers l (insert_key nat_cmp ks n) ls (subst (λ y. Contains (insert_key nat_cmp ks n) y) same (insert_new n ks))
      | inr r ↦ in_numbers l (insert_key nat_cmp ks n) ls r
    ]

with_both : (ks : List ℕ) (xs ys : List (MaybeStatic ℕ)) → with_numbers (with_numbers ks xs) ys ≡ with_numbers ks (xs ++ ys)
with_both ks [] ys = refl
with_both ks (l ∷ xs) ys = with_both (with_number ks l) xs ys

-- a set in order that was grown from nothing lists the lifetimes
pub lists_all : (numbers : List ℕ) (ls : List (MaybeStatic ℕ)) → IsStrictlySortedBy nat_cmp numbers → numbers ≡ with_numbers [] ls → ListsNumbers numbers ls
lists_all numbers ls sorted grown =
    record {
      ascending = IsStrictlyIncreasing-from_sorted numbers sorted;
      members = λ l. (
        λ h. elim (from_numbers l [] ls (subst (λ ks. Contains ks l) grown h)) [ inl n ↦ absurd (none_in l n) | inr r ↦ r ],
        λ h. subst (λ ks. Contains ks l) (sym grown) (in_numbers l [] ls h),
      );
    }

pub lists_both : (numbers : List ℕ) (xs ys : List (MaybeStatic ℕ)) → IsStrictlySortedBy nat_cmp numbers → numbers ≡ with_numbers (with_numbers [] xs) ys → ListsNumbers numbers (xs ++ ys)
lists_both numbers xs ys sorted grown = let joined : numbers ≡ with_numbers [] (xs ++ ys) = rw (← with_both [] xs ys) grown in lists_all numbers (xs ++ ys) sorted joined
