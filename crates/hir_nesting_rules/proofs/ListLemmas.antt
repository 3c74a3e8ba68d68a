-- What is where in lists, and what lists tell of what there is.
use Rattle.std.proofs.Common.{◌≡◌, inl, inr, ℕ, zero, suc, ◌+◌, ◌<◌, List, [], ◌∷◌, ◌++◌, length, map, drop, take, Option, Some, None, refl, sym, ap, subst, ◌∙◌, arith}
use Rattle.std.specs.Prelude.{IfSome, option_map, slice_get}
use Rattle.std.specs.List.{Contains, cons_option, enumerate_from, filter_map}
use Rattle.std.proofs.lemmas.Option.{none-some, same_Some}
use Rattle.bridge_telling.specs.Telling.{TellsExactly}
use Rattle.bridge_telling.proofs.ExactLemmas.{in_cases, in_first, in_none, in_rest}
use Rattle.hir_form.specs.ParamForms.{all_given}
use Rattle.hir_mentions.specs.Mentions.{where_any}

-- ---- places in lists

pub get_front : {X : Type 0} (xs ys : List X) (n : ℕ) (x : X) → slice_get xs n ≡ Some x → slice_get (xs ++ ys) n ≡ Some x
get_front [] ys n x is = absurd (none-some x is)
get_front (z ∷ zs) ys zero x is = is
get_front (z ∷ zs) ys (suc n) x is = get_front zs ys n x is

pub get_back : {X : Type 0} (xs ys : List X) (n : ℕ) → slice_get (xs ++ ys) (length xs + n) ≡ slice_get ys n
get_back [] ys n = let none : 0 + n ≡ n = omega arith in ap (slice_get ys) none
get_back (z ∷ zs) ys n = let more : suc (length zs) + n ≡ suc (length zs + n) = omega arith in ap (slice_get (z ∷ zs ++ ys)) more ∙ get_back zs ys n

pub get_taken : {X : Type 0} (k : ℕ) (xs : List X) (n : ℕ) (x : X) → slice_get (take k xs) n ≡ Some x → slice_get xs n ≡ Some x
get_taken zero xs n x is = absurd (none-some x is)
get_taken (suc k) [] n x is = absurd (none-some x is)
get_taken (suc k) (z ∷ zs) zero x is = is
get_taken (suc k) (z ∷ zs) (suc n) x is = get_taken k zs n x is

pub taken_get : {X : Type 0} (k : ℕ) (xs : List X) (n : ℕ) → n < k → slice_get (take k xs) n ≡ slice_get xs n
taken_get zero xs n within = absurd (omega (arith, within))
taken_get (suc k) [] n within = refl
taken_get (suc k) (z ∷ zs) zero within = refl
taken_get (suc k) (z ∷ zs) (suc n) within = taken_get k zs n (omega (arith, within))

pub get_dropped : {X : Type 0} (k : ℕ) (xs : List X) (n : ℕ) → slice_get (drop k xs) n ≡ slice_get xs (k + n)
get_dropped zero xs n = let none : n ≡ 0 + n = omega arith in ap (slice_get xs) none
get_dropped (suc k) [] n = refl
get_dropped (suc k) (z ∷ zs) n = let more : suc (k + n) ≡ suc k + n = omega arith in get_dropped k zs n ∙ ap (slice_get (z ∷ zs)) more

-- ---- elements with their places

pub numbered_place : {X : Type 0} (m : ℕ) (xs : List X) (p : ℕ × X) → Contains (enumerate_from m xs) p → (k : ℕ) × ((p.0 ≡ m + k) × (slice_get xs k ≡ Some p.1))
numbered_place m [] p h = absurd (in_none p h)
numbered_place m (x ∷ xs) p h = elim (in_cases (m, x) (enumerate_from (m + 1) xs) p h) [
  | inl is ↦ let none : m ≡ m + 0 = omega arith in (0, (ap (λ q. q.0) is ∙ none, ap (λ q. Some q.1) (sym is)))
  | inr c ↦
      let more = numbered_place (m + 1) xs p c in
      let at : ℕ = more.0 in
      let sum : (m + 1) + at ≡ m + suc at = omega arith in
      (suc at, (more.1.0 ∙ sum, more.1.1))
]

pub place_numbered : {X : Type 0} (m : ℕ) (xs : List X) (k : ℕ) (x : X) → slice_get xs k ≡ Some x → Contains (enumerate_from m xs) (m + k, x)
place_numbered m [] k x is = absurd (none-some x is)
place_numbered m (y ∷ ys) zero x is =
    let none : m ≡ m + 0 = omega arith in
    subst (λ n. Contains ((m, y) ∷ enumerate_from (m + 1) ys) (n, x)) none
    (subst (λ z. Contains ((m, y) ∷ enumerate_from (m + 1) ys) (m, z)) (same_Some y x is) (in_first (m, y) (enumerate_from (m + 1) ys)))
place_numbered m (y ∷ ys) (suc k) x is =
    let sum : (m + 1) + k ≡ m + suc k = omega arith in
    subst (λ n. Contains ((m, y) ∷ enumerate_from (m + 1) ys) (n, x)) sum
    (in_rest (m, y) (enumerate_from (m + 1) ys) ((m + 1) + k, x) (place_numbered (m + 1) ys k x is))

-- ---- what is made of elements

pub in_filtered : {X Y : Type 0} (f : X → Option Y) (xs : List X) (y : Y) → Contains (filter_map f xs) y → (x : X) × (Contains xs x × (f x ≡ Some y))
in_filtered f [] y h = absurd (in_none y h)
in_filtered {X} {Y} f (x ∷ xs) y h = here (f x) refl (λ c. let rest = in_filtered f xs y c in (rest.0, (in_rest x xs rest.0 rest.1.0, rest.1.1))) h where
  here : (o : Option Y) → f x ≡ o → (Contains (filter_map f xs) y → (z : X) × (Contains (x ∷ xs) z × (f z ≡ Some y)))
      → Contains (cons_option o (filter_map f xs)) y → (z : X) × (Contains (x ∷ xs) z × (f z ≡ Some y))
  here None is more c = more c
  here (Some z) is more c = elim (in_cases z (filter_map f xs) y c) [ inl same ↦ (x, (in_first x xs, is ∙ ap (λ w. Some w) (sym same))) | inr rest ↦ more rest ]

pub filtered : {X Y : Type 0} (f : X → Option Y) (xs : List X) (x : X) (y : Y) → Contains xs x → f x ≡ Some y → Contains (filter_map f xs) y
filtered f [] x y h is = absurd (in_none x h)
filtered {X} {Y} f (z ∷ zs) x y h is = elim (in_cases z zs x h) [
  | inl same ↦ subst (λ o. Contains (cons_option o (filter_map f zs)) y) (sym (ap f (sym same) ∙ is)) (in_first y (filter_map f zs))
  | inr c ↦ behind (f z) (filtered f zs x y c is)
] where
  behind : (o : Option Y) → Contains (filter_map f zs) y → Contains (cons_option o (filter_map f zs)) y
  behind None c = c
  behind (Some w) c = in_rest w (filter_map f zs) y c

-- what a part of all that is made is, where it is known of each that is made
pub parts_given : {X D Y : Type 0} (form : X → Option D) (part : D → Y) (of : X → Y) → ((x : X) → IfSome (form x) (λ d. part d ≡ of x))
    → (xs : List X) (ds : List D) → all_given (map form xs) ≡ Some ds → map part ds ≡ map of xs
parts_given form part of makes [] ds is = ap (map part) (sym (same_Some [] ds is))
parts_given {X} {D} {Y} form part of makes (x ∷ xs) ds is = first (form x) (makes x) (parts_given form part of makes xs) is where
  rest : (d : D) → part d ≡ of x → ((more : List D) → all_given (map form xs) ≡ Some more → map part more ≡ map of xs) → (o : Option (List D)) → all_given (map form xs) ≡ o
      → option_map (λ more. d ∷ more) o ≡ Some ds → map part ds ≡ map of (x ∷ xs)
  rest d known later None so all = absurd (none-some ds all)
  rest d known later (Some more) so all =
      ap (map part) (sym (same_Some (d ∷ more) ds all)) ∙ ap (λ y. y ∷ map part more) known ∙ ap (λ ys. of x ∷ ys) (later more so)

  first : (o : Option D) → IfSome o (λ d. part d ≡ of x) → ((more : List D) → all_given (map form xs) ≡ Some more → map part more ≡ map of xs)
      → all_given (o ∷ map form xs) ≡ Some ds → map part ds ≡ map of (x ∷ xs)
  first None known later all = absurd (none-some ds all)
  first (Some d) known later all = rest d known later (all_given (map form xs)) refl all

-- ---- what is told of what there is

pub exactly_any : {A E : Type 0} (f : A → List E) (P : A → E → Type 0) → ((a : A) → TellsExactly (f a) (P a)) → (o : Option A) → TellsExactly (where_any f o) (λ e. (a : A) × ((o ≡ Some a) × P a e))
exactly_any f P each None e = (λ h. absurd (in_none e h), λ h. absurd (none-some h.0 h.1.0))
exactly_any f P each (Some a) e = (λ h. (a, (refl, (each a e).0 h)), λ h. subst (λ b. Contains (f b) e) (sym (same_Some a h.0 h.1.0)) ((each h.0 e).1 h.1.1))
