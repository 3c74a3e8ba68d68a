-- Lists in which each element fits what stands before it, and names that are distinct where each is absent before itself.
use Rattle.std.proofs.Common.{◌≡◌, ◌≢◌, ℕ, zero, suc, ◌+◌, ◌<◌, Bool, true, false, cond, List, [], ◌∷◌, ◌++◌, length, map, take, get_or, sym, refl, ap, ◌∙◌, arith, subst, Option, Some, None, append_assoc, length-append, length-take}
use Rattle.std.specs.Prelude.{slice_get, option_map}
use Rattle.std.specs.List.{All, AllByRecursion, Contains}
use Rattle.std.specs.Str.{bytes_eq}
use Rattle.std.proofs.lemmas.List.{append-nil, get_or-take, get_or_default, get_or_append_left, get_or-append-add, map-append, take-map}
use Rattle.std.proofs.lemmas.Option.{slice_get_within, get_or_from_slice_get, slice_get-get_or, slice_get-map}
use Rattle.std.proofs.Math.Seq.{take-append-add}
use Rattle.std.proofs.lemmas.List.Quantifiers.{all_pairs_push}
use Rattle.bridge_ast.specs.declared.fault.EnvPart.{EnvPart}
use Rattle.bridge_ast.specs.EnvFaults.{Named}
use Rattle.bridge_ast.specs.Each.{each_after}
use Rattle.bridge_ast.specs.inside.Fitting.{AllAfter}
use Rattle.bridge_text.specs.NameIndex.{AreDistinct, meaning_of}
use Rattle.bridge_text.proofs.NameIndexLemmas.{same_text, text_itself}

-- ---- lists

-- what holds of each element after those before it, at one
pub after_at : {X : Type 0} (P : List X → X → Type 0) (before xs : List X) (n : ℕ) (d : X) → AllAfter P before xs → n < length xs
    → P (before ++ take n xs) (get_or xs n d)
after_at P before [] n d all lt = absurd (omega arith)
after_at P before (x ∷ xs) zero d all lt = subst (λ b. P b x) (sym (append-nil before)) all.0
after_at P before (x ∷ xs) (suc n) d all lt =
    subst (λ b. P b (get_or xs n d)) (append_assoc before (x ∷ []) (take n xs)) (after_at P (before ++ x ∷ []) xs n d all.1 (omega arith))

-- and the other way
pub after_from : {X : Type 0} (P : List X → X → Type 0) (before xs : List X)
    → ((n : ℕ) (x : X) → slice_get xs n ≡ Some x → P (before ++ take n xs) x) → AllAfter P before xs
after_from P before [] holds = tt
after_from P before (x ∷ xs) holds = (
  subst (λ b. P b x) (append-nil before) (holds 0 x refl),
  after_from P (before ++ x ∷ []) xs
      (λ n y h. subst (λ b. P b y) (sym (append_assoc before (x ∷ []) (take n xs))) (holds (suc n) y h)),
)

-- what follows of it of each element
pub each_holds : {X : Type 0} (P : List X → X → Type 0) (Q : X → Type 0) → ((before : List X) (x : X) → P before x → Q x)
    → (before xs : List X) → AllAfter P before xs → AllByRecursion Q xs
each_holds P Q f before [] all = tt
each_holds P Q f before (x ∷ xs) all = (f before x all.0, each_holds P Q f (before ++ x ∷ []) xs all.1)

-- ---- names

cond_none : {V : Type 0} (b : Bool) (v : V) (o : Option V) → cond b (Some v) o ≡ None → (b ≡ false) × (o ≡ None)
cond_none true v o h = absurd cc
cond_none false v o h = (refl, h)

-- a name that stands for nothing is none of the names
pub absent_from : {V : Type 0} (named : List (List ℕ × V)) (name : List ℕ) → meaning_of named name ≡ None
    → ¬ Contains (map (λ n. n.0) named) name
absent_from [] name none (k, within, at) = absurd (omega arith)
absent_from (first ∷ named) name none (zero, within, at) =
    let parts = cond_none (bytes_eq first.0 name) first.1 (meaning_of named name) none in
    let e : bytes_eq first.0 name ≡ true = subst (λ n. bytes_eq first.0 n ≡ true) at (text_itself first.0) in
    let f : bytes_eq first.0 name ≡ false = parts.0 in
    absurd cc
absent_from (first ∷ named) name none (suc k, within, at) =
    let parts = cond_none (bytes_eq first.0 name) first.1 (meaning_of named name) none in
    absent_from named name parts.1 (k, omega arith, at)

-- and the other way
pub none_of_names : {V : Type 0} (named : List (List ℕ × V)) (name : List ℕ) → ¬ Contains (map (λ n. n.0) named) name
    → meaning_of named name ≡ None
none_of_names [] name absent = refl
none_of_names (first ∷ named) name absent =
    none_at (bytes_eq first.0 name) first.1 (meaning_of named name)
    (λ same. absent (0, omega arith, same_text first.0 name same))
    (none_of_names named name (λ h. absent (suc h.0, omega (arith, h.1), h.2)))
  where
    none_at : {V : Type 0} (b : Bool) (v : V) (o : Option V) → ¬ (b ≡ true) → o ≡ None → cond b (Some v) o ≡ None
    none_at true v o differs e = absurd (differs refl)
    none_at false v o differs e = e

-- the names of a list that is named by its elements' places
pub names_after : {X : Type 0} (name : X → List ℕ) (f : ℕ → EnvPart) (before xs : List X)
    → map (λ (n : Named). n.0) (each_after (λ b x. (name x, f (length b)) ∷ []) before xs) ≡ map name xs
names_after name f before [] = refl
names_after name f before (x ∷ xs) = ap (λ names. name x ∷ names) (names_after name f (before ++ x ∷ []) xs)

-- ---- distinct names

-- what comes after a list of distinct names, each absent before it, leaves them distinct
pub distinct_after : {X : Type 0} (f : X → List ℕ) (front : List (List ℕ)) (P : List X → X → Type 0)
    → ((before : List X) (x : X) → P before x → ¬ Contains (front ++ map f before) (f x)) → (before xs : List X)
    → AreDistinct (front ++ map f before) → AllAfter P before xs → AreDistinct (front ++ map f (before ++ xs))
distinct_after f front P absent before [] distinct all = subst (λ zs. AreDistinct (front ++ map f zs)) (sym (append-nil before)) distinct
distinct_after f front P absent before (x ∷ xs) distinct all =
    let names = front ++ map f before in
    let pushed : AreDistinct (names ++ f x ∷ []) = all_pairs_push (λ (earlier later : List ℕ). earlier ≢ later) names (f x) distinct
    (λ k d within same. absent before x all.0 (k, within, get_or_default names k (f x) d within ∙ same)) in
    let whole : names ++ f x ∷ [] ≡ front ++ map f (before ++ x ∷ []) = append_assoc front (map f before) (f x ∷ [])
    ∙ ap (λ zs. front ++ zs) (sym (map-append f before (x ∷ []))) in
    subst (λ zs. AreDistinct (front ++ map f zs)) (append_assoc before (x ∷ []) xs)
    (distinct_after f front P absent (before ++ x ∷ []) xs (subst AreDistinct whole pushed) all.1)

-- in distinct names none stands before itself
earlier_differs : (names : List (List ℕ)) (n : ℕ) (name : List ℕ) → AreDistinct names → slice_get names n ≡ Some name
    → ¬ Contains (take n names) name
earlier_differs names n name distinct h (k, within, at) =
    let before : k < n = omega (arith, length-take n names) in
    distinct k n name before (slice_get_within names n name h)
    (sym (get_or-take n names k name before) ∙ at ∙ sym (get_or_from_slice_get names n name name h))

-- the same of a list by its elements' names, after a front
pub named_apart : {X : Type 0} (f : X → List ℕ) (front : List (List ℕ)) (xs : List X) (n : ℕ) (x : X)
    → AreDistinct (front ++ map f xs) → slice_get xs n ≡ Some x → ¬ Contains (front ++ map f (take n xs)) (f x)
named_apart f front xs n x distinct h there =
    let stands : slice_get (front ++ map f xs) (length front + n) ≡ Some (f x) = slice_get_after front (map f xs) n (f x)
    (slice_get-map f xs n ∙ ap (option_map f) h) in
    let same : front ++ map f (take n xs) ≡ take (length front + n) (front ++ map f xs) =
    ap (λ zs. front ++ zs) (sym (take-map f n xs)) ∙ sym (take-append-add front (map f xs) n) in
    earlier_differs (front ++ map f xs) (length front + n) (f x) distinct stands (subst (λ zs. Contains zs (f x)) same there)
  where
    slice_get_after : {A : Type 0} (ys zs : List A) (i : ℕ) (a : A) → slice_get zs i ≡ Some a → slice_get (ys ++ zs) (length ys + i) ≡ Some a
    slice_get_after ys zs i a g =
        slice_get-get_or (ys ++ zs) (length ys + i) a (let lt = slice_get_within zs i a g in omega (arith, length-append ys zs))
        ∙ ap Some (get_or-append-add ys zs i a ∙ get_or_from_slice_get zs i a a g)

pub distinct_left : (names others : List (List ℕ)) → AreDistinct (names ++ others) → AreDistinct names
distinct_left names others distinct i j d less within same =
    distinct i j d less (omega (arith, length-append names others))
    (get_or_append_left names others d i (omega arith) ∙ same ∙ sym (get_or_append_left names others d j within))

pub contains_at : {X : Type 0} (xs : List X) (n : ℕ) (x : X) → slice_get xs n ≡ Some x → Contains xs x
contains_at xs n x h = (n, slice_get_within xs n x h, get_or_from_slice_get xs n x x h)

pub recursion_from_All : {X : Type 0} (P : X → Type 0) (xs : List X) → All P xs → AllByRecursion P xs
recursion_from_All P [] all = tt
recursion_from_All P (x ∷ xs) all = (all 0 x (omega arith), recursion_from_All P xs (λ k d within. all (suc k) d (omega arith)))
