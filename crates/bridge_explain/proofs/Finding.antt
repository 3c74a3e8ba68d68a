-- The first that passes, where a loop goes over a list beside another.
use Rattle.std.proofs.Common.{◌≡◌, ◌≤◌, ◌<◌, ◌+◌, ℕ, zero, suc, Bool, Bor, true, false, cond, List, [], ◌∷◌, Option, Some, None, Result, Ok, Err, length, drop, get_or, slice_get, refl, sym, ap, subst, ◌∙◌, arith}
use Rattle.std.specs.Prelude.{IfOk, IfSome, option_map}
use Rattle.std.specs.List.{AllZip, Contains, find}
use Rattle.std.specs.Str.{bytes_eq}
use Rattle.hir_reports.specs.Places.{context_text}
use Rattle.hir_reports.specs.declared.places.ErrorContext.{ErrorContext}
use Rattle.hir_life.specs.declared.maybe_static.MaybeStatic.{MaybeStatic}
use Rattle.hir_skeleton.specs.NamedLeaves.{NamedLeaf}
use Rattle.hir_skeleton.proofs.Members.{first_is_there, later_is_there}
use Rattle.bridge_explain.specs.Explained.{leaf_called}
use Rattle.bridge_explain.specs.inside.Found.{FindsLeaf, IsCarriedIfCalled}
use Rattle.bridge_decl.specs.Names.{joined}
use Rattle.bridge_printing.proofs.SegmentLemmas.{joined_rest}
use Rattle.bridge_report.specs.Callables.{Callable}
use Rattle.bridge_report.specs.Page.{leaf_text}
use Rattle.std.specs.Prelude.{codes}

module _ {A : Type 0} (test : A → Bool) where
  -- the first is it, or it is among the others
  pub found_first : (x : A) (all xs : List A) → find test all ≡ find test (x ∷ xs) → test x ≡ true → find test all ≡ Some x
  found_first x all xs so_far is = so_far ∙ ap (λ b. cond b (Some x) (find test xs)) is

  pub found_later : (x : A) (all xs : List A) → find test all ≡ find test (x ∷ xs) → test x ≡ false → find test all ≡ find test xs
  found_later x all xs so_far is = so_far ∙ ap (λ b. cond b (Some x) (find test xs)) is

  pub found_none : (all : List A) (i : ℕ) → find test all ≡ find test (drop i all) → length all ≤ i → find test all ≡ None
  found_none all i so_far past = so_far ∙ ap (find test) (none_left all i past) where
    none_left : (xs : List A) (i : ℕ) → length xs ≤ i → drop i xs ≡ []
    none_left [] zero past = refl
    none_left [] (suc i) past = refl
    none_left (x ∷ xs) zero past = absurd (omega (arith, past))
    none_left (x ∷ xs) (suc i) past = none_left xs i (omega (arith, past))

-- the element at a place, and what is left after it
after_it : {A : Type 0} (xs : List A) (i : ℕ) (x : A) → slice_get xs i ≡ Some x → drop i xs ≡ x ∷ drop (suc i) xs
after_it [] i x at = absurd cc
after_it (y ∷ ys) zero x at = ap (λ z. z ∷ ys) (same y x at) where
  same : {A : Type 0} (y x : A) → Some y ≡ Some x → y ≡ x
  same y x e = cc
after_it (y ∷ ys) (suc i) x at = after_it ys i x at

pub here : {A : Type 0} (xs : List A) (i : ℕ) (x : A) → slice_get xs i ≡ Some x → drop i xs ≡ x ∷ drop (i + 1) xs
here xs i x at = let next : suc i ≡ i + 1 = omega arith in after_it xs i x at ∙ ap (λ n. x ∷ drop n xs) next

-- beside an element of the other list
pub beside : {A B : Type 0} (R : A → B → Type 0) (xs : List A) (ys : List B) → AllZip R xs ys → (i : ℕ) (y : B) → i < length ys → y ≡ get_or ys i y
    → (x : A) × R x y × (slice_get xs i ≡ Some x)
beside R [] [] all i y within at = absurd (omega (arith, within))
beside R [] (z ∷ ys) all i y within at = absurd all
beside R (x ∷ xs) [] all i y within at = absurd all
beside R (x ∷ xs) (z ∷ ys) all zero y within at = (x, subst (R x) (sym at) all.0, refl)
beside R (x ∷ xs) (z ∷ ys) all (suc i) y within at = beside R xs ys all.1 i y (omega (arith, within)) at

pub beside_length : {A B : Type 0} (R : A → B → Type 0) (xs : List A) (ys : List B) → AllZip R xs ys → length xs ≡ length ys
beside_length R [] [] all = refl
beside_length R [] (y ∷ ys) all = absurd all
beside_length R (x ∷ xs) [] all = absurd all
beside_length R (x ∷ xs) (y ∷ ys) all = ap suc (beside_length R xs ys all.1)

pub if_some_at : {A : Type 0} (P : A → Type 0) (o : Option A) (x : A) → o ≡ Some x → IfSome o P → P x
if_some_at P None x at is = absurd cc
if_some_at P (Some y) x at is = subst P (same y x at) is where
  same : {A : Type 0} (y x : A) → Some y ≡ Some x → y ≡ x
  same y x e = cc

-- a callable at a place that is printed so or isn't
pub called_at : (o : Option Callable) (place : ErrorContext) (word : List ℕ) (same : Bool) → IfSome o (λ c. c.place ≡ place)
    → same ≡ bytes_eq (context_text place) word → IfSome o (λ c. same ≡ bytes_eq (context_text c.place) word)
called_at None place word same is says = tt
called_at (Some c) place word same is says = says ∙ ap (λ p. bytes_eq (context_text p) word) (sym is)

-- names with points are the text of a leaf
pub leaf_shown : (leaf : NamedLeaf) (word : List ℕ) → bytes_eq (joined (codes ".") leaf.names) word ≡ bytes_eq (leaf_text leaf) word
leaf_shown leaf word = ap (λ text. bytes_eq text word) (by_names leaf.names) where
  by_names : (names : List (List ℕ)) → joined (codes ".") names ≡ leaf_text (record { path = []; names = names; carried = [] })
  by_names [] = refl
  by_names (name ∷ names) = joined_rest (codes ".") name names

-- ---- leaves, by their numbers

pub some_at : {A B : Type 0} (f : A → B) (o : Option A) (found : Option B) (x : A) → option_map f o ≡ found → o ≡ Some x → found ≡ Some (f x)
some_at f o found x same is = sym same ∙ ap (option_map f) is

pub none_at : {A B : Type 0} (f : A → B) (P : B → Type 0) (o : Option A) (found : Option B) → option_map f o ≡ found → o ≡ None → IfSome found P
none_at f P o None same is = tt
none_at f P o (Some y) same is = let never : Some y ≡ None = sym same ∙ ap (option_map f) is in absurd cc

pub if_some : {A : Type 0} (P : A → Type 0) (o : Option A) (x : A) → o ≡ Some x → P x → IfSome o P
if_some P o x is holds = subst (λ o. IfSome o P) (sym is) holds

-- what shows a leaf tells whether it is printed so
pub told_as_leaf : {E : Type 0} (r : Result Bool E) (leaf : NamedLeaf) (word : List ℕ) → IfOk r (λ same. same ≡ bytes_eq (joined (codes ".") leaf.names) word)
    → IfOk r (λ same. same ≡ bytes_eq (leaf_text leaf) word)
told_as_leaf (Ok same) leaf word says = says ∙ leaf_shown leaf word
told_as_leaf (Err e) leaf word says = tt

-- ---- a loop over leaves

module _ (leaves : List NamedLeaf) (word : List ℕ) (i : ℕ) (so_far : leaf_called word leaves ≡ leaf_called word (drop i leaves)) (within : i < length leaves) where
  here_is : (leaf : NamedLeaf) × (slice_get leaves i ≡ Some leaf)
  here_is = got leaves i within where
    got : (xs : List NamedLeaf) (i : ℕ) → i < length xs → (x : NamedLeaf) × (slice_get xs i ≡ Some x)
    got [] i lt = absurd (omega (arith, lt))
    got (x ∷ xs) zero lt = (x, refl)
    got (x ∷ xs) (suc i) lt = got xs i (omega (arith, lt))

  split : leaf_called word leaves ≡ leaf_called word (here_is.0 ∷ drop (i + 1) leaves)
  split = so_far ∙ ap (leaf_called word) (here leaves i here_is.0 here_is.1)

  abbrev Says : Option (Bor (List (MaybeStatic ℕ))) → Type 0
  Says o = IfSome (slice_get leaves i) (λ leaf. IsCarriedIfCalled word leaf (option_map (λ carried. carried.now) o))

  pub leaf_found : (o : Option (Bor (List (MaybeStatic ℕ)))) (carried : Bor (List (MaybeStatic ℕ))) → o ≡ Some carried → Says o → FindsLeaf leaves word carried.now
  leaf_found o carried same says =
      let is = if_some_at (λ leaf. IsCarriedIfCalled word leaf (Some carried.now)) (slice_get leaves i) here_is.0 here_is.1 (subst Says same says) in
      record {
        leaf = here_is.0;
        found = found_first (λ (leaf : NamedLeaf). bytes_eq (leaf_text leaf) word) here_is.0 leaves (drop (i + 1) leaves) split is.0;
        carries = is.1;
      }

  pub leaf_passed : (o : Option (Bor (List (MaybeStatic ℕ)))) → o ≡ None → Says o → leaf_called word leaves ≡ leaf_called word (drop (i + 1) leaves)
  leaf_passed o same says =
      found_later (λ (leaf : NamedLeaf). bytes_eq (leaf_text leaf) word) here_is.0 leaves (drop (i + 1) leaves) split
      (if_some_at (λ leaf. IsCarriedIfCalled word leaf None) (slice_get leaves i) here_is.0 here_is.1 (subst Says same says))

pub no_leaf : (leaves : List NamedLeaf) (word : List ℕ) (i : ℕ) → leaf_called word leaves ≡ leaf_called word (drop i leaves) → length leaves ≤ i → leaf_called word leaves ≡ None
no_leaf leaves word i so_far past = found_none (λ (leaf : NamedLeaf). bytes_eq (leaf_text leaf) word) leaves i so_far past

-- the first that passes is one of them
pub found_is_there : {A : Type 0} (test : A → Bool) (xs : List A) (x : A) → find test xs ≡ Some x → Contains xs x
found_is_there test [] x is = absurd cc
found_is_there test (y ∷ ys) x is = by_test (test y) is (found_is_there test ys x) where
  by_test : (b : Bool) → cond b (Some y) (find test ys) ≡ Some x → (find test ys ≡ Some x → Contains ys x) → Contains (y ∷ ys) x
  by_test true is rest = let same : y ≡ x = cc in subst (Contains (y ∷ ys)) same (first_is_there y ys)
  by_test false is rest = later_is_there y x ys (rest is)
