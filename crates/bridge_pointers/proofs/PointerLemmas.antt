-- Looking for a pointer among those of a list, and the text of pointers and names.
use Rattle.std.proofs.Common.{◌≡◌, ℕ, zero, suc, ◌+◌, ◌<◌, List, [], ◌∷◌, ◌++◌, length, map, take, get_or, Option, Some, None, refl, sym, ap, subst, ◌∙◌, add-one, arith}
use Rattle.std.specs.Prelude.{slice_get}
use Rattle.std.proofs.lemmas.List.{length-map}
use Rattle.serde_json.specs.Data.{Data}
use Rattle.serde_json.specs.View.{items_view}
use Rattle.serde_json.specs.View.{view}
use Rattle.serde_json.specs.declared.value.Value.{Value}
use Rattle.bridge_pointers.specs.declared.places.Search.{Search}
use Rattle.bridge_pointers.specs.declared.places.Search.TheVariants.{Found, Left}
use Rattle.bridge_form.specs.declared.pointer.Step.{Step}
use Rattle.bridge_pointers.specs.inside.Places.{Searches}
use Rattle.bridge_form.specs.declared.pointer.Step.TheVariants.{Index}
use Rattle.bridge_form.specs.declared.keys.Key.TheVariants as key
use Rattle.bridge_form.specs.Reading.{at_key, under}
use Rattle.bridge_pointers.specs.Pointers.{in_entries, items_of, modules_within}

-- ---- in lists

get_before : {A : Type 0} (xs ys : List A) (i : ℕ) (x : A) → slice_get xs i ≡ Some x → slice_get (xs ++ ys) i ≡ Some x
get_before [] ys i x e = absurd cc
get_before (z ∷ xs) ys zero x e = e
get_before (z ∷ xs) ys (suc i) x e = get_before xs ys i x e

get_after : {A : Type 0} (xs ys : List A) (i n : ℕ) → n ≡ length xs + i → slice_get (xs ++ ys) n ≡ slice_get ys i
get_after [] ys i n e =
    let is : n ≡ i = omega (arith, e) in ap (slice_get ys) is
get_after (x ∷ xs) ys i zero e = absurd (omega (arith, e))
get_after (x ∷ xs) ys i (suc n) e = get_after xs ys i n (omega (arith, e))

abbrev some_of : {A B : Type 0} → (A → B) → Option A → Option B
some_of f (Some x) = Some (f x)
some_of f None = None

get_mapped : {A B : Type 0} (f : A → B) (xs : List A) (i : ℕ) (x : A) → slice_get xs i ≡ Some x → slice_get (map f xs) i ≡ Some (f x)
get_mapped f [] i x e = absurd cc
get_mapped f (z ∷ xs) zero x e = ap (some_of f) e
get_mapped f (z ∷ xs) (suc i) x e = get_mapped f xs i x e

pub length_both : {A : Type 0} (xs ys : List A) → length (xs ++ ys) ≡ length xs + length ys
length_both [] ys = omega arith
length_both (x ∷ xs) ys = let e = length_both xs ys in omega (arith, e)

module _ (inside : Data → List (List Step)) where
  abbrev entry_at : ℕ → Value → List (List Step)
  entry_at n v = map (λ steps. Index n ∷ steps) (inside (view v))

  count_next : (vs : List Value) (n i : ℕ) (v : Value) → i < length vs → v ≡ get_or vs i v
      → length (in_entries inside n (items_view (take (suc i) vs))) ≡ length (in_entries inside n (items_view (take i vs))) + length (inside (view v))
  count_next [] n i v within is = absurd (omega arith)
  count_next (w ∷ vs) n zero v within is =
      length_both (entry_at n w) [] ∙ (let e : length (entry_at n w) ≡ length (inside (view w)) = length-map (inside (view w)) (λ steps. Index n ∷ steps) in
      let k : length (inside (view w)) ≡ length (inside (view v)) = ap (λ u. length (inside (view u))) (sym is) in omega (arith, e, k))
  count_next (w ∷ vs) n (suc i) v within is =
      let e = count_next vs (n + 1) i v (omega arith) is in
      let before = length_both (entry_at n w) (in_entries inside (n + 1) (items_view (take i vs))) in
      let after = length_both (entry_at n w) (in_entries inside (n + 1) (items_view (take (suc i) vs))) in
      omega (arith, e, before, after)

  -- a search goes on past one entry
  pub counted_more : (vs : List Value) (i number left others : ℕ) (v : Value) → i < length vs → v ≡ get_or vs i v
      → number ≡ length (in_entries inside 0 (items_view (take i vs))) + left → left ≡ length (inside (view v)) + others
      → number ≡ length (in_entries inside 0 (items_view (take (i + 1) vs))) + others
  counted_more vs i number left others v within is before here =
      let e = count_next vs 0 i v within is in
      rw add-one (omega (arith, e, before, here))

  found_next : (vs : List Value) (n i number left : ℕ) (v : Value) (p : List Step) → i < length vs → v ≡ get_or vs i v
      → number ≡ length (in_entries inside n (items_view (take i vs))) + left → slice_get (inside (view v)) left ≡ Some p
      → slice_get (in_entries inside n (items_view vs)) number ≡ Some (Index (n + i) ∷ p)
  found_next [] n i number left v p within is before here = absurd (omega arith)
  found_next (w ∷ vs) n zero number left v p within is before here =
      let at : number ≡ left = omega (arith, before) in
      let e : slice_get (inside (view w)) number ≡ Some p = rw at (subst (λ u. slice_get (inside (view u)) left ≡ Some p) is here) in
      let same : n + 0 ≡ n = omega arith in
      rw same (get_before (entry_at n w) (in_entries inside (n + 1) (items_view vs)) number (Index n ∷ p) (get_mapped (λ steps. Index n ∷ steps) (inside (view w)) number p e))
  found_next (w ∷ vs) n (suc i) number left v p within is before here =
      let both = length_both (entry_at n w) (in_entries inside (n + 1) (items_view (take i vs))) in
      let rest : ℕ = length (in_entries inside (n + 1) (items_view (take i vs))) + left in
      let e : number ≡ length (entry_at n w) + rest = omega (arith, both, before) in
      let same : n + 1 + i ≡ n + suc i = omega arith in
      get_after (entry_at n w) (in_entries inside (n + 1) (items_view vs)) rest number e
      ∙ (found_next vs (n + 1) i rest left v p (omega arith) is refl here ∙ ap (λ m. Some (Index m ∷ p)) same)

  -- a search ends at an entry
  pub found_at : (vs : List Value) (i number left : ℕ) (v : Value) (p : List Step) → i < length vs → v ≡ get_or vs i v
      → number ≡ length (in_entries inside 0 (items_view (take i vs))) + left → slice_get (inside (view v)) left ≡ Some p
      → slice_get (in_entries inside 0 (items_view vs)) number ≡ Some (Index i ∷ p)
  found_at vs i number left v p within is before here =
      let same : 0 + i ≡ i = omega arith in
      subst (λ m. slice_get (in_entries inside 0 (items_view vs)) number ≡ Some (Index m ∷ p)) same (found_next vs 0 i number left v p within is before here)

-- ---- in modules

pub found_within : (levels number rest : ℕ) (d modules : Data) (p : List Step) → under key.Modules d ≡ Some modules → number ≡ suc rest
    → slice_get (in_entries (modules_within levels) 0 (items_of modules)) rest ≡ Some p
    → slice_get (modules_within (suc levels) d) number ≡ Some (at_key key.Modules ∷ p)
found_within levels number rest d modules p is e here =
    rw (e, is) (get_mapped (λ steps. at_key key.Modules ∷ steps) (in_entries (modules_within levels) 0 (items_of modules)) rest p here)

pub left_within : (levels number rest left : ℕ) (d modules : Data) → under key.Modules d ≡ Some modules → number ≡ suc rest
    → rest ≡ length (in_entries (modules_within levels) 0 (items_of modules)) + left
    → number ≡ length (modules_within (suc levels) d) + left
left_within levels number rest left d modules is e here =
    let n = length-map (in_entries (modules_within levels) 0 (items_of modules)) (λ steps. at_key key.Modules ∷ steps) in
    rw is (omega (arith, e, here, n))

-- ---- as a search ends

pub where_found : (pointers : List (List Step)) (number : ℕ) (search : Search) (p : List Step) → search ≡ Found p → Searches pointers number search
    → slice_get pointers number ≡ Some p
where_found pointers number search p is searches = subst (Searches pointers number) is searches

pub where_left : (pointers : List (List Step)) (number : ℕ) (search : Search) (left : ℕ) → search ≡ Left left → Searches pointers number search
    → number ≡ length pointers + left
where_left pointers number search left is searches = subst (Searches pointers number) is searches
