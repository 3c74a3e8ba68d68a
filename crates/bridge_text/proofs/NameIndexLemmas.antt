-- What a name stands for with one name more, and what the place of a name says.
use Rattle.std.proofs.Common.{◌≡◌, ℕ, zero, suc, ◌+◌, ◌<◌, Bool, true, false, cond, List, [], ◌∷◌, ◌++◌, length, map, take, get_or, Option, Some, None, length-take, refl, sym, ap, ◌∙◌, arith, subst, inl, inr}
use Rattle.std.specs.Prelude.{option_map, IsSome, slice_get, ◌↔◌, ◌⊎◌}
use Rattle.std.specs.List.{Contains}
use Rattle.std.specs.Map.{lookup}
use Rattle.std.specs.Str.{bytes_eq}
use Rattle.std.specs.Ordering.{nat_cmp, is_eq}
use Rattle.std.specs.Cmp.Lexicographic.{slice_cmp}
use Rattle.std.specs.BTreeMap.{BTreeMap, get, is_at}
use Rattle.std.proofs.lemmas.List.{map_more, length-map}
use Rattle.std.proofs.lemmas.Option.{slice_get_within, get_or_from_slice_get, slice_get_read}
use Rattle.std.proofs.lemmas.Slice.Eq.{bytes_eq-Decides}
use Rattle.std.proofs.lemmas.Map.Text.{is_eq-slice_cmp}
use Rattle.bridge_text.specs.NameIndex.{AreDistinct, meaning_of, number_of, HasMeanings, Indexes}

-- texts that the test finds equal are one
pub same_text : (a b : List ℕ) → bytes_eq a b ≡ true → a ≡ b
same_text a b h = (bytes_eq-Decides a b).0 h

pub text_itself : (a : List ℕ) → bytes_eq a a ≡ true
text_itself a = (bytes_eq-Decides a a).1 refl

-- ---- names that stand for anything

module _ {V : Type 0} where
  -- what was found, or else the last value, where the last name is the one
  abbrev or_last : Option V → Bool → V → Option V
  or_last (Some found) is_last last = Some found
  or_last None is_last last = cond is_last (Some last) None

  push_step : (is_first is_last : Bool) (first last : V) (others : Option V)
      → cond is_first (Some first) (or_last others is_last last) ≡ or_last (cond is_first (Some first) others) is_last last
  push_step true is_last first last others = refl
  push_step false is_last first last others = refl

  -- what a name stands for among more names, by what it stands for among those before them
  pub meaning_of-push : (named : List (List ℕ × V)) (name : List ℕ) (value : V) (q : List ℕ)
      → meaning_of (named ++ (name, value) ∷ []) q ≡ or_last (meaning_of named q) (bytes_eq name q) value
  meaning_of-push [] name value q = refl
  meaning_of-push (first ∷ named) name value q =
      ap (λ found. cond (bytes_eq first.0 q) (Some first.1) found) (meaning_of-push named name value q)
      ∙ push_step (bytes_eq first.0 q) (bytes_eq name q) first.1 value (meaning_of named q)

  found_stays : (found : Option V) (is_last : Bool) (last : V) → found ≡ or_last found false last
  found_stays (Some v) is_last last = refl
  found_stays None is_last last = refl

  again_at : (named : List (List ℕ × V)) (name : List ℕ) (value earlier : V) (q : List ℕ) (is_last : Bool)
      → bytes_eq name q ≡ is_last → meaning_of named name ≡ Some earlier
      → meaning_of named q ≡ or_last (meaning_of named q) is_last value
  again_at named name value earlier q true same stands =
      let there : meaning_of named q ≡ Some earlier = ap (meaning_of named) (sym (same_text name q same)) ∙ stands in
      there ∙ ap (λ found. or_last found true value) (sym there)
  again_at named name value earlier q false same stands = found_stays (meaning_of named q) false value

  -- a name that stands for something already keeps it
  pub meanings_again : (index : BTreeMap (List ℕ) V) (named : List (List ℕ × V)) (name : List ℕ) (value earlier : V)
      → meaning_of named name ≡ Some earlier → HasMeanings index named → HasMeanings index (named ++ (name, value) ∷ [])
  meanings_again index named name value earlier stands has = record {
    finds = λ q. has.finds q ∙ again_at named name value earlier q (bytes_eq name q) refl stands ∙ sym (meaning_of-push named name value q);
  }

  new_at : (named : List (List ℕ × V)) (name : List ℕ) (value : V) (q : List ℕ) (is_last : Bool)
      → bytes_eq name q ≡ is_last → meaning_of named name ≡ None
      → cond is_last (Some value) (meaning_of named q) ≡ or_last (meaning_of named q) is_last value
  new_at named name value q true same absent =
      ap (λ found. or_last found true value) (sym (ap (meaning_of named) (sym (same_text name q same)) ∙ absent))
  new_at named name value q false same absent = found_stays (meaning_of named q) false value

  -- a new name goes to the end
  pub meanings_one_more : (old new : BTreeMap (List ℕ) V) (named : List (List ℕ × V)) (key name : List ℕ) (value : V)
      → key ≡ name → meaning_of named name ≡ None → HasMeanings old named
      → ((q : List ℕ) → get (slice_cmp nat_cmp) new q ≡ cond {A = Option V} (is_eq (slice_cmp nat_cmp key q)) (Some value)
      (get (slice_cmp nat_cmp) old q))
      → HasMeanings new (named ++ (name, value) ∷ [])
  meanings_one_more old new named key name value same absent has updates = record {
    finds = λ q.
        let test : is_eq (slice_cmp nat_cmp key q) ≡ bytes_eq name q = ap (λ k. is_eq (slice_cmp nat_cmp k q)) same ∙ is_eq-slice_cmp name q in
        updates q ∙ ap (λ b. cond b (Some value) (get (slice_cmp nat_cmp) old q)) test
        ∙ ap (λ found. cond (bytes_eq name q) (Some value) found) (has.finds q)
        ∙ new_at named name value q (bytes_eq name q) refl absent
        ∙ sym (meaning_of-push named name value q);
  }

  -- an empty index has no names
  pub meanings_none : (index : BTreeMap (List ℕ) V) → index.entries ≡ [] → HasMeanings index []
  meanings_none index empty = record { finds = λ name. ap (λ entries. lookup (is_at (slice_cmp nat_cmp name)) entries) empty }

-- ---- names that stand for their places

-- each name with its place, counted from a number
abbrev pub with_places : ℕ → List (List ℕ) → List (List ℕ × ℕ)
with_places from [] = []
with_places from (name ∷ names) = (name, from) ∷ with_places (suc from) names

counted : (is_first : Bool) (from : ℕ) (others : Option ℕ)
    → cond is_first (Some from) (option_map (λ place. suc from + place) others)
    ≡ option_map (λ place. from + place) (cond is_first (Some 0) (option_map suc others))
counted true from others = ap Some (omega arith)
counted false from None = refl
counted false from (Some place) = ap Some (omega arith)

places_from : (from : ℕ) (names : List (List ℕ)) (q : List ℕ)
    → meaning_of (with_places from names) q ≡ option_map (λ place. from + place) (number_of names q)
places_from from [] q = refl
places_from from (name ∷ names) q =
    ap (λ found. cond (bytes_eq name q) (Some from) found) (places_from (suc from) names q)
    ∙ counted (bytes_eq name q) from (number_of names q)

from_none : (place : Option ℕ) → option_map (λ p. 0 + p) place ≡ place
from_none None = refl
from_none (Some p) = ap Some (omega arith)

-- the place of a name is what it stands for, where each stands for its place
pub place_is_meaning : (names : List (List ℕ)) (q : List ℕ) → meaning_of (with_places 0 names) q ≡ number_of names q
place_is_meaning names q = places_from 0 names q ∙ from_none (number_of names q)

pub indexes_from : (index : BTreeMap (List ℕ) ℕ) (names : List (List ℕ)) → HasMeanings index (with_places 0 names) → Indexes index names
indexes_from index names has = record { finds = λ q. has.finds q ∙ place_is_meaning names q }

pub indexes_to : (index : BTreeMap (List ℕ) ℕ) (names : List (List ℕ)) → Indexes index names → HasMeanings index (with_places 0 names)
indexes_to index names indexed = record { finds = λ q. indexed.finds q ∙ sym (place_is_meaning names q) }

with_places-push : (from : ℕ) (names : List (List ℕ)) (name : List ℕ)
    → with_places from names ++ (name, from + length names) ∷ [] ≡ with_places from (names ++ name ∷ [])
with_places-push from [] name = ap (λ place. (name, place) ∷ []) (omega arith)
with_places-push from (first ∷ names) name =
    ap (λ place. (first, from) ∷ (with_places (suc from) names ++ (name, place) ∷ [])) (omega arith)
    ∙ ap (λ named. (first, from) ∷ named) (with_places-push (suc from) names name)

-- an index of places with one name more
pub indexes_push : (index : BTreeMap (List ℕ) ℕ) (names : List (List ℕ)) (name : List ℕ) (place : ℕ) → place ≡ length names
    → HasMeanings index (with_places 0 names ++ (name, place) ∷ []) → Indexes index (names ++ name ∷ [])
indexes_push index names name place at_end has =
    let counted_from : place ≡ 0 + length names = omega (arith, at_end) in
    let all = ap (λ p. with_places 0 names ++ (name, p) ∷ []) counted_from ∙ with_places-push 0 names name in
    indexes_from index (names ++ name ∷ []) (subst (HasMeanings index) all has)

module _ {X : Type 0} (name_of : X → List ℕ) (xs : List X) (i : ℕ) (x : X) where
  -- a loop that takes the names in turn
  pub indexes_next : i < length xs → x ≡ get_or xs i x → (index : BTreeMap (List ℕ) ℕ)
      → HasMeanings index (with_places 0 (map name_of (take i xs)) ++ (name_of x, i) ∷ [])
      → Indexes index (map name_of (take (i + 1) xs))
  indexes_next within is index has =
      let up_to : map name_of (take (i + 1) xs) ≡ map name_of (take i xs) ++ name_of x ∷ [] = map_more name_of xs i x within
      ∙ ap (λ y. map name_of (take i xs) ++ name_of y ∷ []) (sym is) in
      let at_end : i ≡ length (map name_of (take i xs)) = omega (arith, length-map (take i xs) name_of, length-take i xs) in
      subst (Indexes index) (sym up_to) (indexes_push index (map name_of (take i xs)) (name_of x) i at_end has)

-- ---- what the place of a name says

-- a name that has no place is neither the first nor one of the others
pub none_parts : (first : Bool) (others : Option ℕ) → cond first (Some 0) (option_map suc others) ≡ None → (first ≡ false) × (others ≡ None)
none_parts true others h = absurd cc
none_parts false None h = (refl, refl)
none_parts false (Some k) h = absurd cc

-- the place of a name is that of the first or one of the others
some_parts : (first : Bool) (others : Option ℕ) (k : ℕ) → cond first (Some 0) (option_map suc others) ≡ Some k
    → ((first ≡ true) × (k ≡ 0)) ⊎ ((j : ℕ) × (others ≡ Some j) × (k ≡ suc j))
some_parts true others k h = inl (refl, cc)
some_parts false None k h = absurd cc
some_parts false (Some j) k h = inr (j, refl, cc)

some_later : (first : Bool) (others : Option ℕ) → IsSome others → IsSome (cond first (Some 0) (option_map suc others))
some_later true others h = refl
some_later false None h = h
some_later false (Some j) h = refl

some_first : (first : Bool) (others : Option ℕ) → first ≡ true → IsSome (cond first (Some 0) (option_map suc others))
some_first true others h = refl
some_first false others h = absurd cc

-- a name stands at its place
pub stands_at_number : (names : List (List ℕ)) (name : List ℕ) (place : ℕ) → number_of names name ≡ Some place
    → slice_get names place ≡ Some name
stands_at_number [] name place h = absurd cc
stands_at_number (first ∷ names) name zero h =
    elim (some_parts (bytes_eq first name) (number_of names name) zero h) [
      | inl w ↦ ap Some (same_text first name w.0)
      | inr w ↦ absurd (let e : zero ≡ suc w.0 = w.2 in omega arith)
    ]
stands_at_number (first ∷ names) name (suc place) h =
    elim (some_parts (bytes_eq first name) (number_of names name) (suc place) h) [
      | inl w ↦ absurd (let e : suc place ≡ 0 = w.1 in omega arith)
      | inr w ↦ stands_at_number names name place (w.1 ∙ ap Some (let e : suc place ≡ suc w.0 = w.2 in omega arith))
    ]

-- the place of a name is within the list, and the name stands there
pub number_of_some : (names : List (List ℕ)) (name : List ℕ) (place : ℕ) → number_of names name ≡ Some place
    → (place < length names) × (slice_get names place ≡ Some name)
number_of_some names name place h =
    let e = stands_at_number names name place h in
    (slice_get_within names place name e, e)

-- a name that stands somewhere has a place
pub has_number : (names : List (List ℕ)) (name : List ℕ) (place : ℕ) → slice_get names place ≡ Some name → IsSome (number_of names name)
has_number [] name place h = absurd cc
has_number (first ∷ names) name zero h =
    let same : first ≡ name = cc in
    some_first (bytes_eq first name) (number_of names name) (ap (λ x. bytes_eq x name) same ∙ text_itself name)
has_number (first ∷ names) name (suc place) h = some_later (bytes_eq first name) (number_of names name) (has_number names name place h)

none_is_not_some : (o : Option ℕ) → o ≡ None → IsSome o → ⊥
none_is_not_some None e h = absurd cc
none_is_not_some (Some n) e h = absurd cc

some_of : (o : Option ℕ) → IsSome o → (n : ℕ) × (o ≡ Some n)
some_of None h = absurd cc
some_of (Some n) h = (n, refl)

absent_number : (names : List (List ℕ)) (name : List ℕ) → ¬ Contains names name → (o : Option ℕ) → number_of names name ≡ o → o ≡ None
absent_number names name absent None e = refl
absent_number names name absent (Some place) e =
    let found = number_of_some names name place e in
    absurd (absent (place, found.0, get_or_from_slice_get names place name name found.1))

-- a name has no place exactly if it isn't in the list
pub number_of_none : (names : List (List ℕ)) (name : List ℕ) → (number_of names name ≡ None) ↔ (¬ Contains names name)
number_of_none names name = (
  λ none (place, within, is). none_is_not_some (number_of names name) none (has_number names name place (slice_get_read names (length names) place name refl within (sym is))),
  λ absent. absent_number names name absent (number_of names name) refl,
)

not_before : (names : List (List ℕ)) (name : List ℕ) (i j : ℕ) → AreDistinct names → slice_get names i ≡ Some name
    → slice_get names j ≡ Some name → i < j → ⊥
not_before names name i j distinct first second before =
    distinct i j name before (slice_get_within names j name second) (get_or_from_slice_get names i name name first ∙ sym (get_or_from_slice_get names j name name second))

-- in a list of distinct names each has the place where it stands
pub number_of_place : (names : List (List ℕ)) (name : List ℕ) (place : ℕ) → AreDistinct names → slice_get names place ≡ Some name
    → number_of names name ≡ Some place
number_of_place names name place distinct stands =
    let found = some_of (number_of names name) (has_number names name place stands) in
    let there = stands_at_number names name found.0 found.1 in
    let later = not_before names name found.0 place distinct there stands in
    let earlier = not_before names name place found.0 distinct stands there in
    let same : found.0 ≡ place = omega (arith, later, earlier) in
    found.1 ∙ ap Some same
