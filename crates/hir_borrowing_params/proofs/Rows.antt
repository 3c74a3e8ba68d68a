-- Sets of keys by number.
use Rattle.std.proofs.Common.{◌≡◌, ◌≢◌, inl, inr, ℕ, zero, suc, ◌<◌, ◌≤◌, ◌+◌, ◌||◌, ◌&&◌, nat_eq, Bool, true, false, cond, List, [], ◌∷◌, ◌++◌, Option, Some, None, arith, ap, subst, sym, refl, ◌∙◌, length, length-take, take, slice_get}
use Rattle.std.specs.Prelude.{unwrap_or, IsSome, IsTrue, slice_index_or}
use Rattle.std.specs.List.{Contains, list_any}
use Rattle.std.specs.Ordering.{nat_cmp}
use Rattle.std.specs.BTreeMap.{BTreeMap, Updates, get, is_at}
use Rattle.std.specs.BTreeSet.{BTreeSet}
use Rattle.std.specs.Map.{lookup}
use Rattle.std.proofs.lemmas.Bool.{cases_eq, eq-eqb, eqb-true}
use Rattle.std.proofs.lemmas.Bool.Decides.{eqb_tells, nat_tests}
use Rattle.std.proofs.lemmas.List.{take_all, take_more}
use Rattle.std.proofs.lemmas.List.Folds.{list_any_at, list_any_more, list_any_none}
use Rattle.std.proofs.lemmas.Map.Views.{Contains-from_any}
use Rattle.std.proofs.lemmas.Option.{slice_get_past}
use Rattle.hir_borrowing_params.proofs.Writing.{at_other}
use Rattle.hir_borrowing_params.specs.Answering.{HasNoEmpty, MapsRows, maps_to, row_at, some_passes}
use Rattle.hir_borrowing_params.specs.Edges.{info_under, is_in}
use Rattle.hir_borrowing_params.specs.inside.Candidates.{candidate_passes, passes_under}
use Rattle.hir_borrowing_params.specs.declared.candidates.EdgeCandidate.{EdgeCandidate}
use Rattle.hir_borrowing_params.specs.declared.edges.BorrowedLifetimeInfo.{BorrowedLifetimeInfo}

pub at_same : (k : ℕ) → is_at (nat_cmp k) k ≡ true
at_same k = grind (arith, nat_tests)

-- a set that isn't empty has a number
pub some_in : (set : BTreeSet ℕ) → (set.keys ≡ [] → ⊥) → (t : ℕ) × IsTrue (is_in set t)
some_in set full = by_keys set.keys refl where
  by_keys : (ks : List ℕ) → set.keys ≡ ks → (t : ℕ) × IsTrue (is_in set t)
  by_keys [] e = absurd (full e)
  by_keys (k ∷ ks) e = (k, ap (list_any (is_at (nat_cmp k))) e ∙ ap (λ b. b || list_any (is_at (nat_cmp k)) ks) (at_same k))

module _ (old new : BTreeMap ℕ (BTreeSet ℕ)) (number : ℕ) (set : BTreeSet ℕ) (updates : Updates nat_cmp old new number (Some set)) where
  pub set_elsewhere : (d t : ℕ) → d ≢ number → maps_to new d t ≡ maps_to old d t
  set_elsewhere d t apart = ap (some_passes (λ s. is_in s t)) (updates.2 d (at_other number d apart))

  pub full_still : (set.keys ≡ [] → ⊥) → HasNoEmpty old → HasNoEmpty new
  full_still some full d s here =
      elim (cases_eq d number) [
        | inl e ↦
            let same : set ≡ s = ap (λ o. unwrap_or o set) (sym updates.1 ∙ ap (get nat_cmp new) (sym e) ∙ here) in
            subst (λ x. (t : ℕ) × IsTrue (is_in x t)) same (some_in set some)
        | inr apart ↦ full d s (sym (updates.2 d (at_other number d apart)) ∙ here)
      ]

at_is_eq : (k q : ℕ) → is_at (nat_cmp k) q ≡ nat_eq k q
at_is_eq k q = grind (arith, nat_tests)

-- a key that is added, or isn't
pub added : (old new : BTreeSet ℕ) (key t : ℕ) (passes : Bool) → passes ≡ true → is_in new t ≡ cond (is_at (nat_cmp key) t) true (is_in old t) → is_in new t ≡ (is_in old t || nat_eq key t && passes)
added old new key t passes does is =
    let e : is_at (nat_cmp key) t ≡ nat_eq key t = at_is_eq key t in
    rw (is, e, does) (by_cases (nat_eq key t) (is_in old t))
  where
    by_cases : (b c : Bool) → cond b true c ≡ (c || b && true)
    by_cases true true = refl
    by_cases true false = refl
    by_cases false true = refl
    by_cases false false = refl

pub not_added : (old : BTreeSet ℕ) (key t : ℕ) (passes : Bool) → passes ≡ false → is_in old t ≡ (is_in old t || nat_eq key t && passes)
not_added old key t passes fails = rw fails (by_cases (nat_eq key t) (is_in old t))
  where
    by_cases : (b c : Bool) → c ≡ (c || b && false)
    by_cases true true = refl
    by_cases true false = refl
    by_cases false true = refl
    by_cases false false = refl

-- ---- tests of the keys that were met

pub any_next : (p : ℕ → Bool) (keys : List ℕ) (i k : ℕ) (before after : Bool) → i < length keys → k ≡ slice_index_or keys i k → before ≡ list_any p (take i keys) → after ≡ (before || p k) → after ≡ list_any p (take (i + 1) keys)
any_next p keys i k before after within is so_far step =
    step ∙ (ap (λ b. b || p k) so_far ∙ (ap (λ x. list_any p (take i keys) || p x) is ∙ sym (list_any_more p keys i k within)))

-- one of the keys is t and passes exactly where t passes, if it is a key then
pub any_is : (p : ℕ → Bool) (keys : List ℕ) (t : ℕ) → (p t ≡ true → Contains keys t) → list_any (λ k. nat_eq k t && p k) keys ≡ p t
any_is p keys t known = by_answer (p t) refl where
  fails_each : p t ≡ false → (k : ℕ) → (nat_eq k t && p k) ≡ false
  fails_each fails k = elim (eqb_tells k t) [
    | inl h ↦ ap (λ b. b && p k) h.0 ∙ (ap p h.1 ∙ fails)
    | inr h ↦ ap (λ b. b && p k) h.0
  ]

  passes_there : p t ≡ true → (i : ℕ) → i < length keys → slice_index_or keys i t ≡ t → list_any (λ k. nat_eq k t && p k) keys ≡ true
  passes_there does i within here =
      list_any_at (λ k. nat_eq k t && p k) keys i t within (ap (λ k. nat_eq k t && p k) here ∙ (ap (λ b. b && p t) (eq-eqb t t refl) ∙ does))

  by_answer : (b : Bool) → p t ≡ b → list_any (λ k. nat_eq k t && p k) keys ≡ b
  by_answer true is = let at = known is in passes_there is at.0 at.1 at.2
  by_answer false is = list_any_none (λ k. nat_eq k t && p k) keys (λ i d within. fails_each is (slice_index_or keys i d))

-- ---- lists that grow by one

get_last : {X : Type 0} (xs : List X) (x : X) → slice_get (xs ++ x ∷ []) (length xs) ≡ Some x
get_last [] x = refl
get_last (y ∷ ys) x = get_last ys x

get_other : {X : Type 0} (xs : List X) (x : X) (d : ℕ) → d ≢ length xs → slice_get (xs ++ x ∷ []) d ≡ slice_get xs d
get_other [] x zero apart = absurd (apart refl)
get_other [] x (suc d) apart = refl
get_other (y ∷ ys) x zero apart = refl
get_other (y ∷ ys) x (suc d) apart = get_other ys x d (λ e. apart (ap suc e))

module _ {X : Type 0} (xs : List X) (i : ℕ) (x : X) (within : i < length xs) (is : x ≡ slice_index_or xs i x) where
  grown : take (i + 1) xs ≡ take i xs ++ x ∷ []
  grown = take_more xs i x within ∙ ap (λ y. take i xs ++ y ∷ []) (sym is)

  many : length (take i xs) ≡ i
  many = grind (arith, length-take)

  pub get_here : slice_get (take (i + 1) xs) i ≡ Some x
  get_here = ap (λ ys. slice_get ys i) grown ∙ (ap (slice_get (take i xs ++ x ∷ [])) (sym many) ∙ get_last (take i xs) x)

  pub get_elsewhere : (d : ℕ) → d ≢ i → slice_get (take (i + 1) xs) d ≡ slice_get (take i xs) d
  get_elsewhere d apart = ap (λ ys. slice_get ys d) grown ∙ get_other (take i xs) x d (λ e. apart (e ∙ many))

  pub get_none : slice_get (take i xs) i ≡ None
  get_none = slice_get_past (take i xs) i (omega (arith, many))

module _ {X : Type 0} (row : X → ℕ → Bool) (xs : List X) (i : ℕ) (x : X) (within : i < length xs) (is : x ≡ slice_index_or xs i x) (before : BTreeMap ℕ (BTreeSet ℕ)) (so_far : MapsRows row (take i xs) before) where
  pub none_yet : (t : ℕ) → maps_to before i t ≡ false
  none_yet t = so_far.at i t ∙ ap (some_passes (λ y. row y t)) (get_none xs i x within is)

  pub rows_next : (after : BTreeMap ℕ (BTreeSet ℕ)) (set : BTreeSet ℕ) → ((t : ℕ) → is_in set t ≡ row x t) → ((t : ℕ) → maps_to after i t ≡ is_in set t) → ((d t : ℕ) → d ≢ i → maps_to after d t ≡ maps_to before d t)
      → HasNoEmpty after → MapsRows row (take (i + 1) xs) after
  rows_next after set right here others full = record {
    at = λ d t. elim (cases_eq d i) [
      | inl e ↦ ap (λ y. maps_to after y t) e ∙ (here t ∙ (right t ∙ (sym (ap (some_passes (λ y. row y t)) (get_here xs i x within is)) ∙ ap (λ y. row_at row (take (i + 1) xs) y t) (sym e))))
      | inr apart ↦ others d t apart ∙ (so_far.at d t ∙ sym (ap (some_passes (λ y. row y t)) (get_elsewhere xs i x within is d apart)))
    ];
    some = full;
  }

pub no_rows : {X : Type 0} (row : X → ℕ → Bool) (xs : List X) (sets : BTreeMap ℕ (BTreeSet ℕ)) → sets.entries ≡ [] → MapsRows row (take 0 xs) sets
no_rows row xs sets empty = record {
  at = λ d t. ap (λ es. some_passes (λ set. is_in set t) (lookup (is_at (nat_cmp d)) es)) empty;
  some = λ d set here. absurd (none_here (sym here ∙ ap (lookup (is_at (nat_cmp d))) empty));
} where
  none_here : {set : BTreeSet ℕ} → Some set ≡ None → ⊥
  none_here e = cc

pub all_rows : {X : Type 0} (row : X → ℕ → Bool) (xs : List X) (n : ℕ) (sets : BTreeMap ℕ (BTreeSet ℕ)) → length xs ≤ n → MapsRows row (take n xs) sets → MapsRows row xs sets
all_rows row xs n sets past maps = subst (λ ys. MapsRows row ys sets) (take_all n xs past) maps

-- where there is no set, nothing has anything
pub rows_none : {X : Type 0} (row : X → ℕ → Bool) (xs : List X) (sets : BTreeMap ℕ (BTreeSet ℕ)) → MapsRows row xs sets → sets.entries ≡ [] → (d t : ℕ) → row_at row xs d t ≡ false
rows_none row xs sets maps empty d t = sym (maps.at d t) ∙ ap (λ es. some_passes (λ set. is_in set t) (lookup (is_at (nat_cmp d)) es)) empty

-- and where there is one, something has something
pub rows_some : {X : Type 0} (row : X → ℕ → Bool) (xs : List X) (sets : BTreeMap ℕ (BTreeSet ℕ)) → MapsRows row xs sets → (sets.entries ≡ [] → ⊥) → (d : ℕ) × (t : ℕ) × IsTrue (row_at row xs d t)
rows_some row xs sets maps full = by_entries sets.entries refl where
  by_entries : (es : List (ℕ × BTreeSet ℕ)) → sets.entries ≡ es → (d : ℕ) × (t : ℕ) × IsTrue (row_at row xs d t)
  by_entries [] e = absurd (full e)
  by_entries ((d, set) ∷ es) e =
      let here : get nat_cmp sets d ≡ Some set = ap (lookup (is_at (nat_cmp d))) e ∙ ap (λ b. cond b (Some set) (lookup (is_at (nat_cmp d)) es)) (at_same d) in
      let has = maps.some d set here in
      (d, has.0, sym (maps.at d has.0) ∙ (ap (some_passes (λ s. is_in s has.0)) here ∙ has.1))

-- a key under which an edge is there is a key
pub known_there : (m : BTreeMap ℕ BorrowedLifetimeInfo) (keys : List ℕ) (c : EdgeCandidate) → ((t : ℕ) → IsSome (info_under m t) → Contains keys t) → (t : ℕ) → passes_under m t c ≡ true → Contains keys t
known_there m keys c known t does = known t (some_there (info_under m t) does) where
  some_there : (o : Option BorrowedLifetimeInfo) → some_passes (λ info. candidate_passes (is_in info.all_longer_lifetimes) c) o ≡ true → IsSome o
  some_there None h = absurd cc
  some_there (Some x) h = refl

-- ---- keys that a test finds

pub key_found : (keys : List ℕ) (t : ℕ) → list_any (nat_eq t) keys ≡ true → Contains keys t
key_found keys t = Contains-from_any (λ x y. eqb-true x y) t keys

pub key_finds : (keys : List ℕ) (t : ℕ) → Contains keys t → list_any (nat_eq t) keys ≡ true
key_finds keys t h = list_any_at (nat_eq t) keys h.0 t h.1 (eq-eqb t (slice_index_or keys h.0 t) (sym h.2))
