-- The lifetimes of slices, as they are searched for and kept.
use Rattle.std.proofs.Common.{◌≡◌, ◌<◌, ◌≤◌, ◌+◌, ◌-◌, ◌↔◌, ◌⊎◌, inl, inr, ℕ, zero, suc, Bool, true, false, true≢false, ◌||◌, ◌&&◌, List, [], ◌∷◌, ◌++◌, length, map, get_or, take, Some, Result, Ok, Err, refl, sym, ap, subst, ◌∙◌, arith}
use Rattle.std.specs.declared.alloc.AllocError.{AllocError}
use Rattle.std.specs.Prelude.{IsTrue, OnOk, unwrap_or, nat_lt}
use Rattle.std.specs.BTreeMap as by_key
use Rattle.std.specs.BTreeMap.{BTreeMap, Updates}
use Rattle.std.specs.BTreeSet.{BTreeSet}
use Rattle.std.specs.List.{All, Contains, list_any}
use Rattle.std.specs.Ordering.{nat_cmp}
use Rattle.std.proofs.lemmas.Cmp.{nat_cmp_total}
use Rattle.std.proofs.lemmas.Bool.{cases_eq, cases_lt, lt-ltb, ltb-true}
use Rattle.std.proofs.lemmas.List.Elements.{All-cons, All-contains, All-contains_itself, All-head, All-nil, All-tail, All-weaker}
use Rattle.std.proofs.lemmas.List.Folds.{list_any-append, list_any_more}
use Rattle.std.proofs.lemmas.List.FromFn.{get_or-map-range_with_len, length-map-range_with_len}
use Rattle.std.proofs.lemmas.List.{get_or_past}
use Rattle.std.proofs.lemmas.Map.Lookups.{exact_unsigned}
use Rattle.std.proofs.lemmas.Map.Views.{btree_set_contains_iff}
use Rattle.hir_life.specs.Environment.{IsSound}
use Rattle.hir_life.specs.Substitution.{identity}
use Rattle.hir_life.specs.declared.maybe_static.MaybeStatic.{MaybeStatic}
use Rattle.hir_life.specs.declared.maybe_static.MaybeStatic.TheVariants.{Static, NonStatic}
use Rattle.hir_ids.specs.declared.ids.TypeId.{TypeId}
use Rattle.hir_ids.specs.declared.ids.TypeId.TheVariants as type
use Rattle.hir_types.specs.Named.{ListsNumbers, lifetimes_named}
use Rattle.hir_definitions.specs.declared.methods.Method.{Method}
use Rattle.hir_context.specs.declared.parts.Definitions.{Definitions}
use Rattle.hir_skeleton.specs.Skeletons.{Skeleton, Struct}
use Rattle.hir_skeleton.specs.Leaves.{input_leaves, leaf_passes, number_passes, through}
use Rattle.hir_skeleton.proofs.Passing.{passing_number, some_passes}
use Rattle.hir_borrowing_params.specs.Edges.{is_in}
use Rattle.hir_borrowing_params.specs.Slices.{HasSlice, IsKept, NamesSlice, slice_inputs, slice_leaves, slices_in}
use Rattle.hir_borrowing_params.specs.inside.Searching.{AreKnown, AreSlicesOf, NestsAt, NestsWithin, is_number, slice_passes, slices_pass}
use Rattle.hir_borrowing_params.proofs.Carrying.{any_in_fields, is_itself, is_same, leaves_pass, none_pass, number_does, one_level_more, one_passes}
use Rattle.hir_borrowing_params.proofs.Finding.{and_both, and_first, and_second, any_found, any_there, or_assoc, or_cases, or_left, or_none, or_right, same_answer}
use Rattle.hir_borrowing_params.proofs.Writing.{at_other}

-- ---- what is in a set

pub in_set : (set : BTreeSet ℕ) (d : ℕ) → is_in set d ≡ true → Contains set.keys d
in_set set d h = (btree_set_contains_iff nat_cmp_total exact_unsigned set d).0 h

pub set_has : (set : BTreeSet ℕ) (d : ℕ) → Contains set.keys d → is_in set d ≡ true
set_has set d h = (btree_set_contains_iff nat_cmp_total exact_unsigned set d).1 h

pub in_none : (set : BTreeSet ℕ) (d : ℕ) → set.keys ≡ [] → is_in set d ≡ false
in_none set d none = by_answer (is_in set d) refl where
  by_answer : (b : Bool) → is_in set d ≡ b → is_in set d ≡ false
  by_answer true is = let there = subst (λ keys. Contains keys d) none (in_set set d is) in absurd (omega (arith, there.1))
  by_answer false is = is

-- one more of those to come
pub one_done : (before after start here rest : Bool) → after ≡ (before || here) → (before || (here || rest)) ≡ start → (after || rest) ≡ start
one_done before after start here rest step is = ap (λ b. b || rest) step ∙ or_assoc before here rest ∙ is

-- one more of those that were
pub one_added : (start before after front here : Bool) → before ≡ (start || front) → after ≡ (before || here) → after ≡ (start || (front || here))
one_added start before after front here is step = step ∙ ap (λ b. b || here) is ∙ or_assoc start front here

module _ {X Y : Type 0} (p : Y → Bool) (f : X → Y) where
  pub any_mapped : (xs : List X) → list_any p (map f xs) ≡ list_any (λ x. p (f x)) xs
  any_mapped [] = refl
  any_mapped (x ∷ xs) = ap (λ b. p (f x) || b) (any_mapped xs)

pub all_mapped : {X Y : Type 0} (P : Y → Type 0) (f : X → Y) (xs : List X) → All P (map f xs) → All (λ x. P (f x)) xs
all_mapped P f [] all = All-nil (λ x. P (f x))
all_mapped P f (x ∷ xs) all = All-cons (λ x. P (f x)) x xs (All-head P (f x) (map f xs) all) (all_mapped P f xs (All-tail P (f x) (map f xs) all))

-- what one of a list gives, added
pub each_added : {X : Type 0} (p : X → Bool) (xs : List X) (i : ℕ) (x : X) (start before after here : Bool) → i < length xs → x ≡ get_or xs i x → before ≡ (start || list_any p (take i xs))
    → after ≡ (before || here) → here ≡ p x → after ≡ (start || list_any p (take (i + 1) xs))
each_added p xs i x start before after here within is so_far step gives =
    one_added start before after (list_any p (take i xs)) here so_far step
    ∙ ap (λ b. start || (list_any p (take i xs) || b)) (gives ∙ ap p is)
    ∙ ap (λ b. start || b) (sym (list_any_more p xs i x within))

-- one alone
pub alone_added : {X : Type 0} (p : ℕ → X → Bool) (x : X) (xs : List X) (old new : BTreeSet ℕ) (r : Result (Unit {0}) AllocError) → xs ≡ x ∷ [] → OnOk r ((d : ℕ) → is_in new d ≡ (is_in old d || p d x))
    → OnOk r ((d : ℕ) → is_in new d ≡ (is_in old d || list_any (p d) xs))
alone_added p x xs old new (Err e) alone is = tt
alone_added p x xs old new (Ok u) alone is = λ d. is d ∙ ap (λ b. is_in old d || b) (sym (or_none (p d x))) ∙ ap (λ ys. is_in old d || list_any (p d) ys) (sym alone)

-- ---- what is known of structs

module _ (defs : Definitions) where
  -- a test of the lifetimes of a struct that slices in it have
  pub known_pass : (place : ℕ) (own : BTreeSet ℕ) (test : ℕ → Bool) → AreSlicesOf defs place own → list_any test own.keys ≡ slices_pass defs (type.Struct place) test
  known_pass place own test right =
      same_answer (list_any test own.keys) (slices_pass defs (type.Struct place) test)
      (λ h. let found = any_there test own.keys h in
      number_does (slices_in defs) 256 (type.Struct place) test found.0 (sym (right found.0) ∙ set_has own found.0 found.2) found.1)
      (λ h. let found = one_passes (slices_in defs) 256 (type.Struct place) test h in
      any_found test own.keys found.0 found.2 (in_set own found.0 (right found.0 ∙ found.1)))

  -- the arguments that stand for them
  pub known_added : (known : BTreeMap ℕ (BTreeSet ℕ)) (place : ℕ) (own old new : BTreeSet ℕ) (lent args : List (MaybeStatic ℕ)) (r : Result (Unit {0}) AllocError) → AreKnown defs known → by_key.get nat_cmp known place ≡ Some own → lent ≡ args
      → OnOk r ((d : ℕ) → is_in new d ≡ (is_in old d || list_any (through (is_number d) lent) own.keys))
      → OnOk r ((d : ℕ) → is_in new d ≡ (is_in old d || slice_passes defs (is_number d) (Struct (type.Struct place) args)))
  known_added known place own old new lent args (Err e) right there same is = tt
  known_added known place own old new lent args (Ok u) right there same is = λ d.
      is d
      ∙ ap (λ given. is_in old d || list_any (through (is_number d) given) own.keys) same
      ∙ ap (λ b. is_in old d || b) (known_pass place own (through (is_number d) args) (right place own there))

  pub known_more : (old new : BTreeMap ℕ (BTreeSet ℕ)) (place : ℕ) (own : BTreeSet ℕ) → Updates nat_cmp old new place (Some own) → AreSlicesOf defs place own → AreKnown defs old → AreKnown defs new
  known_more old new place own updates right known other set here =
      elim (cases_eq other place) [
        | inl e ↦
            let same : own ≡ set = ap (λ o. unwrap_or o own) (sym updates.1 ∙ ap (by_key.get nat_cmp new) (sym e) ∙ here) in
            subst (λ k. AreSlicesOf defs k set) (sym e) (subst (AreSlicesOf defs place) same right)
        | inr apart ↦ known other set (sym (updates.2 other (at_other place other apart)) ∙ here)
      ]

  -- a struct without fields that count
  pub none_found : (place : ℕ) (own : BTreeSet ℕ) → own.keys ≡ [] → NestsWithin (slices_in defs) 0 (type.Struct place) → AreSlicesOf defs place own
  none_found place own empty none d = in_none own d empty ∙ sym (none_pass (slices_in defs) (type.Struct place) none 256 (is_number d))

  -- a struct by its fields, one level down
  pub found_in_fields : {X : Type 0} (f : X → Skeleton TypeId) (fields : List X) (place levels : ℕ) (start own : BTreeSet ℕ) → map f fields ≡ slices_in defs (type.Struct place) → levels ≤ 256
      → NestsWithin (slices_in defs) levels (type.Struct place) → start.keys ≡ []
      → ((d : ℕ) → is_in own d ≡ (is_in start d || list_any (λ x. slice_passes defs (is_number d) (f x)) fields)) → AreSlicesOf defs place own
  found_in_fields f fields place levels start own are few nests empty is d =
      is d
      ∙ ap (λ b. b || list_any (λ x. slice_passes defs (is_number d) (f x)) fields) (in_none start d empty)
      ∙ sym (any_mapped (slice_passes defs (is_number d)) f fields)
      ∙ ap (list_any (slice_passes defs (is_number d))) are
      ∙ one_level_more (slices_in defs) levels (type.Struct place) 256 (is_number d) nests few

  pub fields_nest : {X : Type 0} (f : X → Skeleton TypeId) (fields : List X) (place levels : ℕ) → map f fields ≡ slices_in defs (type.Struct place) → (levels ≡ 0 → ⊥)
      → NestsWithin (slices_in defs) levels (type.Struct place) → All (λ x. NestsAt defs (levels - 1) (f x)) fields
  fields_nest f fields place zero are some nests = absurd (some refl)
  fields_nest f fields place (suc n) are some nests =
      let less : suc n - 1 ≡ n = omega arith in
      all_mapped (NestsAt defs (suc n - 1)) f fields
      (subst (λ k. All (NestsAt defs k) (map f fields)) (sym less) (subst (All (NestsAt defs n)) (sym are) nests))

-- ---- the slices of a method

own_through : (count t : ℕ) → t < count → (l : ℕ) → through (is_number t) (identity count) l ≡ is_number t l
own_through count t within l =
    elim (cases_lt l count) [
      | inl below ↦ ap (number_passes (is_number t)) (get_or-map-range_with_len (λ n. NonStatic n) 0 count l l Static below (omega arith))
      | inr past ↦
          ap (number_passes (is_number t)) (get_or_past (identity count) l Static (let many = length-map-range_with_len (λ (n : ℕ). NonStatic n) 0 count in omega (arith, past, many)))
          ∙ sym (other (is_number t l) refl past)
    ]
  where
    other : (b : Bool) → is_number t l ≡ b → count ≤ l → b ≡ false
    other true is past = let e = is_same t l is in absurd (omega (arith, e, within, past))
    other false is past = refl

module _ (defs : Definitions) (m : Method) where
  slices_tested : (t : ℕ) → t < m.lifetime_env.count → list_any (leaf_passes (is_number t)) (slice_leaves defs m) ≡ list_any (slice_passes defs (is_number t)) (slice_inputs m)
  slices_tested t within =
      any_in_fields (is_number t) (input_leaves (slices_in defs) m.lifetime_env.count) 0 (slice_inputs m)
      ∙ ap (λ p. list_any p (slice_inputs m))
      (λ i s. (leaves_pass (slices_in defs) (is_number t) 256 (identity m.lifetime_env.count) s
      ∙ ap (λ test. slice_passes defs test s) (λ j l. own_through m.lifetime_env.count t within l j)) i)

  has_slice : (t : ℕ) → list_any (leaf_passes (is_number t)) (slice_leaves defs m) ≡ true → HasSlice defs m t
  has_slice t h =
      let leaf = any_there (leaf_passes (is_number t)) (slice_leaves defs m) h in
      let number = passing_number (is_number t) leaf.0.carried leaf.1 in
      record {
        slice = leaf.0;
        among = leaf.2;
        carries = subst (λ l. Contains leaf.0.carried (NonStatic l)) (is_same t number.0 number.1) number.2;
      }

  of_slice : (t : ℕ) → HasSlice defs m t → list_any (leaf_passes (is_number t)) (slice_leaves defs m) ≡ true
  of_slice t h = any_found (leaf_passes (is_number t)) (slice_leaves defs m) h.slice (some_passes (is_number t) h.slice.carried t (is_itself t) h.carries) h.among

  -- those of a set that have a name, where the set has the lifetimes of all slices
  abbrev pub SlicesAre : BTreeSet ℕ → Type 0
  SlicesAre set = (d : ℕ) → is_in set d ≡ list_any (slice_passes defs (is_number d)) (slice_inputs m)

  pub included : (set : BTreeSet ℕ) → IsSound m.lifetime_env → SlicesAre set → (t : ℕ)
      → (list_any (λ l. is_number t l && nat_lt l (length m.lifetime_env.bounds)) set.keys ≡ true ↔ NamesSlice defs m t)
  included set sound are t = (
    λ h.
        let found = any_there (λ l. is_number t l && nat_lt l (length m.lifetime_env.bounds)) set.keys h in
        let same = is_same t found.0 (and_first (is_number t found.0) (nat_lt found.0 (length m.lifetime_env.bounds)) found.1) in
        let named = ltb-true found.0 (length m.lifetime_env.bounds) (and_second (is_number t found.0) (nat_lt found.0 (length m.lifetime_env.bounds)) found.1) in
        let counted = sound.counted in
        let below : t < length m.lifetime_env.bounds = omega (arith, same, named) in
        (below, has_slice t (slices_tested t (omega (arith, below, counted)) ∙ sym (are t) ∙ set_has set t (subst (Contains set.keys) same found.2))),
    λ h.
        let counted = sound.counted in
        let below = h.0 in
        any_found (λ l. is_number t l && nat_lt l (length m.lifetime_env.bounds)) set.keys t
        (and_both (is_number t t) (nat_lt t (length m.lifetime_env.bounds)) (is_itself t) (lt-ltb t (length m.lifetime_env.bounds) below))
        (in_set set t (are t ∙ sym (slices_tested t (omega (arith, below, counted))) ∙ of_slice t h.1)),
  )

  -- those of the receiver and of the parameters
  pub both_inputs : {X : Type 0} (f : X → Skeleton TypeId) (receiver : List (Skeleton TypeId)) (params lent : List X) (start mid set : BTreeSet ℕ) (d : ℕ) → start.keys ≡ [] → lent ≡ params
      → is_in mid d ≡ (is_in start d || list_any (slice_passes defs (is_number d)) receiver)
      → is_in set d ≡ (is_in mid d || list_any (λ x. slice_passes defs (is_number d) (f x)) lent)
      → is_in set d ≡ list_any (slice_passes defs (is_number d)) (receiver ++ map f params)
  both_inputs f receiver params lent start mid set d empty same first second =
      second
      ∙ ap (λ b. b || list_any (λ x. slice_passes defs (is_number d) (f x)) lent) (first ∙ ap (λ b. b || list_any (slice_passes defs (is_number d)) receiver) (in_none start d empty))
      ∙ ap (λ xs. list_any (slice_passes defs (is_number d)) receiver || list_any (λ x. slice_passes defs (is_number d) (f x)) xs) same
      ∙ ap (λ b. list_any (slice_passes defs (is_number d)) receiver || b) (sym (any_mapped (slice_passes defs (is_number d)) f params))
      ∙ sym (list_any-append (slice_passes defs (is_number d)) receiver (map f params))

  -- added to what there is, where they are included; and not added
  adds_all : (set old new : BTreeSet ℕ) (with_slices : Bool) → IsSound m.lifetime_env → SlicesAre set → with_slices ≡ true
      → ((t : ℕ) → is_in new t ≡ (is_in old t || list_any (λ l. is_number t l && nat_lt l (length m.lifetime_env.bounds)) set.keys))
      → (t : ℕ) → (IsTrue (is_in new t) ↔ (IsTrue (is_in old t) ⊎ (IsTrue with_slices × NamesSlice defs m t)))
  adds_all set old new with_slices sound are on is t = (
    λ h. elim (or_cases (is_in old t) (list_any (λ l. is_number t l && nat_lt l (length m.lifetime_env.bounds)) set.keys) (sym (is t) ∙ h)) [
      | inl was ↦ inl was
      | inr now ↦ inr (on, (included set sound are t).0 now)
    ],
    λ h. is t ∙ (elim h as (λ _. (is_in old t || list_any (λ l. is_number t l && nat_lt l (length m.lifetime_env.bounds)) set.keys) ≡ true) [
      | inl was ↦ or_left (is_in old t) _ was
      | inr now ↦ or_right (is_in old t) _ ((included set sound are t).1 now.1)
    ]),
  )

  pub adds_included : (set old new : BTreeSet ℕ) (with_slices : Bool) (r : Result (Unit {0}) AllocError) → IsSound m.lifetime_env → SlicesAre set → with_slices ≡ true
      → OnOk r ((t : ℕ) → is_in new t ≡ (is_in old t || list_any (λ l. is_number t l && nat_lt l (length m.lifetime_env.bounds)) set.keys))
      → OnOk r ((t : ℕ) → (IsTrue (is_in new t) ↔ (IsTrue (is_in old t) ⊎ (IsTrue with_slices × NamesSlice defs m t))))
  adds_included set old new with_slices (Err e) sound are on is = tt
  adds_included set old new with_slices (Ok u) sound are on is = adds_all set old new with_slices sound are on is

  pub adds_none : (set : BTreeSet ℕ) (with_slices : Bool) → with_slices ≡ false → (t : ℕ) → (IsTrue (is_in set t) ↔ (IsTrue (is_in set t) ⊎ (IsTrue with_slices × NamesSlice defs m t)))
  adds_none set with_slices off t = (
    λ h. inl h,
    λ h. elim h as (λ _. IsTrue (is_in set t)) [
      | inl was ↦ was
      | inr now ↦ absurd (true≢false (sym now.0 ∙ off))
    ],
  )

  -- ---- what is kept

  pub kept : (old new : BTreeSet ℕ) (with_slices : Bool) → ListsNumbers old.keys (lifetimes_named m.output)
      → ((t : ℕ) → (IsTrue (is_in new t) ↔ (IsTrue (is_in old t) ⊎ (IsTrue with_slices × NamesSlice defs m t))))
      → (t : ℕ) → (Contains new.keys t ↔ IsKept defs m with_slices t)
  kept old new with_slices lists is t = (
    λ h. elim ((is t).0 (set_has new t h)) [
      | inl was ↦ inl ((lists.members t).0 (in_set old t was))
      | inr now ↦ inr now
    ],
    λ h. in_set new t ((is t).1 (elim h as (λ _. IsTrue (is_in old t) ⊎ (IsTrue with_slices × NamesSlice defs m t)) [
      | inl was ↦ inl (set_has old t ((lists.members t).1 was))
      | inr now ↦ inr now
    ])),
  )

  pub kept_below : (old new : BTreeSet ℕ) (with_slices : Bool) → IsSound m.lifetime_env → All (λ t. t < m.lifetime_env.count) old.keys
      → ((t : ℕ) → (IsTrue (is_in new t) ↔ (IsTrue (is_in old t) ⊎ (IsTrue with_slices × NamesSlice defs m t))))
      → All (λ t. t < m.lifetime_env.count) new.keys
  kept_below old new with_slices sound below is = All-weaker (Contains new.keys) (λ t. t < m.lifetime_env.count) one new.keys (All-contains_itself new.keys)
    where
      one : (t : ℕ) → Contains new.keys t → t < m.lifetime_env.count
      one t h = elim ((is t).0 (set_has new t h)) [
        | inl was ↦ All-contains (λ t. t < m.lifetime_env.count) old.keys t below (in_set old t was)
        | inr now ↦ let counted = sound.counted in let named = now.1.0 in omega (arith, counted, named)
      ]
