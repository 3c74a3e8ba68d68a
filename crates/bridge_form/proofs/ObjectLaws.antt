-- The laws of objects and of tests.
use Rattle.std.proofs.Common.{◌≡◌, Bool, true, false, ◌&&◌, ℕ, List, [], ◌∷◌, Option, Some, None, Result, Ok, Err, IsTrue, refl, sym, ap, ◌∙◌, inl, inr}
use Rattle.std.specs.Prelude.{◌⊎◌}
use Rattle.serde_json.specs.Data.{Data, null, boolean, number, string, array, object, Members, no_members, member}
use Rattle.bridge_form.specs.declared.keys.Key.{Key}
use Rattle.bridge_form.specs.declared.fault.Fault.{Fault}
use Rattle.bridge_form.specs.declared.pointer.Step.{Step}
use Rattle.bridge_form.specs.Reading.{◌>>=◌, at_key, is_one_of, all_of, has_only, known, unless_known, only, or_wrong_at}
use Rattle.bridge_form.specs.Form.{Form, Parts, fault_of, unknown_keys, unknown_before, object_faults, object_with, test_faults, refined, refined_at, never}
use Rattle.bridge_form.proofs.FormLaws.{Begins, Lawful, LawfulParts, good, bind_ok, bind_err, no_error, err_is, ok_is, bind_twice, bind_each, begins_before, begins_after, none_both}

-- ---- objects

pub known_has_at : (keys : List Key) (text : List ℕ) (b c : Bool) (others : Result (Unit {0}) Fault) → (others ≡ Ok tt → c ≡ true) → unless_known b text others ≡ Ok tt → b && c ≡ true
known_has_at keys text true c others all e = all e
known_has_at keys text false c others all e = absurd cc

pub known_has : (keys : List Key) (ms : Members) → known keys ms ≡ Ok tt → all_of keys ms ≡ true
known_has keys no_members e = refl
known_has keys (member text d ms) e = known_has_at keys text (is_one_of keys text) (all_of keys ms) (known keys ms) (known_has keys ms) e

pub has_known_at : (text : List ℕ) (b c : Bool) (others : Result (Unit {0}) Fault) → (c ≡ true → others ≡ Ok tt) → b && c ≡ true → unless_known b text others ≡ Ok tt
has_known_at text true c others all e = all e
has_known_at text false c others all e = absurd cc

pub has_known : (keys : List Key) (ms : Members) → all_of keys ms ≡ true → known keys ms ≡ Ok tt
has_known keys no_members e = refl
has_known keys (member text d ms) e = has_known_at text (is_one_of keys text) (all_of keys ms) (known keys ms) (has_known keys ms) e

pub known_none_at : (text : List ℕ) (b : Bool) (others : Result (Unit {0}) Fault) (faults : List Fault) → (others ≡ Ok tt → faults ≡ []) → unless_known b text others ≡ Ok tt → unknown_before b text faults ≡ []
known_none_at text true others faults none e = none e
known_none_at text false others faults none e = absurd cc

pub known_none : (keys : List Key) (ms : Members) → known keys ms ≡ Ok tt → unknown_keys keys ms ≡ []
known_none keys no_members e = refl
known_none keys (member text d ms) e = known_none_at text (is_one_of keys text) (known keys ms) (unknown_keys keys ms) (known_none keys ms) e

pub unknown_first_at : (text : List ℕ) (b : Bool) (others : Result (Unit {0}) Fault) (faults : List Fault) (fault : Fault) → (others ≡ Err fault → Begins fault faults) → unless_known b text others ≡ Err fault → Begins fault (unknown_before b text faults)
unknown_first_at text true others faults fault begins e = begins e
unknown_first_at text false others faults fault begins e = record { rest = faults; is = ap (λ f. f ∷ faults) (err_is _ _ e) }

pub unknown_first : (keys : List Key) (ms : Members) (fault : Fault) → known keys ms ≡ Err fault → Begins fault (unknown_keys keys ms)
unknown_first keys no_members fault e = absurd cc
unknown_first keys (member text d ms) fault e = unknown_first_at text (is_one_of keys text) (known keys ms) (unknown_keys keys ms) fault (unknown_first keys ms fault) e

pub only_has : (keys : List Key) (d : Data) → only keys d ≡ Ok tt → IsTrue (has_only keys d)
unfolding only has_only
only_has keys null e = absurd cc
only_has keys (boolean b) e = absurd cc
only_has keys (number n) e = absurd cc
only_has keys (string s) e = absurd cc
only_has keys (array ds) e = absurd cc
only_has keys (object ms) e = known_has keys ms e

pub has_only_ok : (keys : List Key) (d : Data) → IsTrue (has_only keys d) → only keys d ≡ Ok tt
unfolding only has_only
has_only_ok keys null h = absurd cc
has_only_ok keys (boolean b) h = absurd cc
has_only_ok keys (number n) h = absurd cc
has_only_ok keys (string s) h = absurd cc
has_only_ok keys (array ds) h = absurd cc
has_only_ok keys (object ms) h = has_known keys ms h

module _ {A : Type 0} (parts : Parts A) (lawful : LawfulParts parts) where
  pub object_found : (d : Data) (x : A) → (object_with parts).read d ≡ Ok x → (object_with parts).Spells d x
  object_found d x e =
      let keys = bind_ok _ _ _ e in
      (only_has parts.keys d keys.1, lawful.grows d (λ y. good y ≡ good x) (λ y. y ≡ x) (λ y h. ok_is y x h) (lawful.found d (λ y. Ok y) x keys.2))

  pub object_only : (d : Data) (x : A) → (object_with parts).Spells d x → (object_with parts).read d ≡ Ok x
  object_only d x h = rw (has_only_ok parts.keys d h.0) (lawful.only d (λ y. Ok y) x (lawful.grows d (λ y. y ≡ x) (λ y. good y ≡ good x) (λ y e. ap good e) h.1))

  pub object_sound : (d : Data) (x : A) → (object_with parts).read d ≡ Ok x → object_faults parts d ≡ []
  unfolding only
  object_sound null x e = absurd cc
  object_sound (boolean b) x e = absurd cc
  object_sound (number n) x e = absurd cc
  object_sound (string s) x e = absurd cc
  object_sound (array ds) x e = absurd cc
  object_sound (object ms) x e =
      let keys = bind_ok (known parts.keys ms) _ _ e in
      none_both (unknown_keys parts.keys ms) (parts.faults (object ms)) (known_none parts.keys ms keys.1) (lawful.sound (object ms) (λ y. Ok y) x keys.2)

  pub object_first : (d : Data) (fault : Fault) → (object_with parts).read d ≡ Err fault → Begins fault (object_faults parts d)
  unfolding only
  object_first null fault e = record { rest = []; is = cc }
  object_first (boolean b) fault e = record { rest = []; is = cc }
  object_first (number n) fault e = record { rest = []; is = cc }
  object_first (string s) fault e = record { rest = []; is = cc }
  object_first (array ds) fault e = record { rest = []; is = cc }
  object_first (object ms) fault e = elim (bind_err (known parts.keys ms) _ _ e) [
    | inl now ↦ begins_before fault (unknown_keys parts.keys ms) (parts.faults (object ms)) (unknown_first parts.keys ms fault now)
    | inr on ↦ elim (lawful.first (object ms) (λ y. Ok y) fault on.2) [
      | inl later ↦ begins_after fault (unknown_keys parts.keys ms) (parts.faults (object ms)) (known_none parts.keys ms on.1) later
      | inr never ↦ absurd (no_error never.1.0 fault never.1.1)
    ]
  ]

  pub object_lawful : Lawful (object_with parts)
  object_lawful = record { found = object_found; only = object_only; sound = object_sound; first = object_first }

-- ---- tests

pub tested_ok : {B : Type 0} (at : List Step) (o : Option B) (y : B) → or_wrong_at at o ≡ Ok y → o ≡ Some y
tested_ok at (Some x) y e = ap Some (ok_is x y e)
tested_ok at None y e = absurd cc

pub tested_none : {A B : Type 0} (at : List Step) (test : A → Option B) (read : Result A Fault) (x : A) (y : B) → read ≡ Ok x → test x ≡ Some y → test_faults at test read ≡ []
tested_none at test read x y e h = rw (e, h) refl

pub tested_err : {B : Type 0} (at : List Step) (o : Option B) (fault : Fault) → or_wrong_at at o ≡ Err fault → Begins fault (fault_of (or_wrong_at at o))
tested_err at (Some x) fault e = absurd cc
tested_err at None fault e = record { rest = []; is = cc }

module _ {A B : Type 0} (test : A → Option B) (form : Form A) (lawful : Lawful form) where
  pub refined_found : (d : Data) (y : B) → (refined test form).read d ≡ Ok y → (refined test form).Spells d y
  refined_found d y e =
      let h = bind_ok _ _ _ e in
      (h.0, lawful.found d h.0 h.1, tested_ok _ _ _ h.2)

  pub refined_only : (d : Data) (y : B) → (refined test form).Spells d y → (refined test form).read d ≡ Ok y
  refined_only d y h = rw (lawful.only d h.0 h.1, h.2) refl

  pub refined_sound : (d : Data) (y : B) → (refined test form).read d ≡ Ok y → (refined test form).faults d ≡ []
  refined_sound d y e =
      let h = bind_ok _ _ _ e in
      none_both (form.faults d) (test_faults [] test (form.read d)) (lawful.sound d h.0 h.1) (tested_none [] test (form.read d) h.0 y h.1 (tested_ok _ _ _ h.2))

  pub refined_late : (d : Data) (fault : Fault) (x : A) → form.read d ≡ Ok x → or_wrong_at [] (test x) ≡ Err fault → Begins fault ((refined test form).faults d)
  refined_late d fault x e h = begins_after fault (form.faults d) (test_faults [] test (form.read d)) (lawful.sound d x e) (rw e (tested_err [] (test x) fault h))

  pub refined_first : (d : Data) (fault : Fault) → (refined test form).read d ≡ Err fault → Begins fault ((refined test form).faults d)
  refined_first d fault e = elim (bind_err _ _ _ e) [
    | inl now ↦ begins_before fault (form.faults d) (test_faults [] test (form.read d)) (lawful.first d fault now)
    | inr on ↦ refined_late d fault on.0 on.1 on.2
  ]

  pub refined_lawful : Lawful (refined test form)
  refined_lawful = record { found = refined_found; only = refined_only; sound = refined_sound; first = refined_first }

-- ---- tests of parts

module _ {A B : Type 0} (key : Key) (test : A → Option B) (parts : Parts A) (lawful : LawfulParts parts) where
  pub at_grows : (d : Data) (K L : B → Type 0) → ((y : B) → K y → L y) → (refined_at key test parts).Spell d K → (refined_at key test parts).Spell d L
  at_grows d K L more h = lawful.grows d (λ x. (y : B) × (test x ≡ Some y) × K y) (λ x. (y : B) × (test x ≡ Some y) × L y) (λ x k. (k.0, k.1, more k.0 k.2)) h

  pub at_reaches : (d : Data) (C : Type 0) → (refined_at key test parts).Spell d (λ y. C) → C
  at_reaches d C h = lawful.reaches d C (lawful.grows d (λ x. (y : B) × (test x ≡ Some y) × C) (λ x. C) (λ x k. k.2) h)

  pub at_same : {R : Type 0} (d : Data) (then : B → Result R Fault) → (refined_at key test parts).read d then ≡ parts.read d (λ x. or_wrong_at (at_key key ∷ []) (test x) >>= then)
  at_same d then =
      ap (λ r. r >>= then) (lawful.follows d (λ x. or_wrong_at (at_key key ∷ []) (test x)))
      ∙ sym (bind_each (parts.read d (λ x. Ok x)) (λ x. or_wrong_at (at_key key ∷ []) (test x) >>= then) (λ x. or_wrong_at (at_key key ∷ []) (test x)) then (λ x. refl))
      ∙ sym (lawful.follows d (λ x. or_wrong_at (at_key key ∷ []) (test x) >>= then))

  pub at_found : {R : Type 0} (d : Data) (then : B → Result R Fault) (r : R) → (refined_at key test parts).read d then ≡ Ok r → (refined_at key test parts).Spell d (λ y. then y ≡ Ok r)
  at_found d then r e =
      let h = bind_ok _ _ _ e in
      lawful.grows d (λ x. or_wrong_at (at_key key ∷ []) (test x) ≡ Ok h.0) (λ x. (y : B) × (test x ≡ Some y) × (then y ≡ Ok r)) (λ x k. (h.0, tested_ok _ _ _ k, h.2)) (lawful.found d (λ x. or_wrong_at (at_key key ∷ []) (test x)) h.0 h.1)

  pub at_only : {R : Type 0} (d : Data) (then : B → Result R Fault) (r : R) → (refined_at key test parts).Spell d (λ y. then y ≡ Ok r) → (refined_at key test parts).read d then ≡ Ok r
  at_only d then r h = at_same d then ∙ lawful.only d (λ x. or_wrong_at (at_key key ∷ []) (test x) >>= then) r (lawful.grows d (λ x. (y : B) × (test x ≡ Some y) × (then y ≡ Ok r)) (λ x. (or_wrong_at (at_key key ∷ []) (test x) >>= then) ≡ Ok r) (λ x k. rw k.1 k.2) h)

  pub at_sound : {R : Type 0} (d : Data) (then : B → Result R Fault) (r : R) → (refined_at key test parts).read d then ≡ Ok r → (refined_at key test parts).faults d ≡ []
  at_sound d then r e =
      let inner = bind_ok _ _ _ (sym (lawful.follows d (λ x. or_wrong_at (at_key key ∷ []) (test x) >>= then)) ∙ sym (at_same d then) ∙ e) in
      let y = bind_ok _ _ _ inner.2 in
      none_both (parts.faults d) (test_faults (at_key key ∷ []) test (parts.read d (λ x. Ok x))) (lawful.sound d (λ x. Ok x) inner.0 inner.1) (tested_none (at_key key ∷ []) test (parts.read d (λ x. Ok x)) inner.0 y.0 inner.1 (tested_ok _ _ _ y.1))

  pub at_first_late : (d : Data) (fault : Fault) (x : A) → parts.read d (λ x. Ok x) ≡ Ok x → or_wrong_at (at_key key ∷ []) (test x) ≡ Err fault → Begins fault ((refined_at key test parts).faults d)
  at_first_late d fault x e h = begins_after fault (parts.faults d) (test_faults (at_key key ∷ []) test (parts.read d (λ x. Ok x))) (lawful.sound d (λ x. Ok x) x e) (rw e (tested_err (at_key key ∷ []) (test x) fault h))

  pub at_first_now : (d : Data) (fault : Fault) → parts.read d (λ x. Ok x) ≡ Err fault → Begins fault ((refined_at key test parts).faults d)
  at_first_now d fault e = elim (lawful.first d (λ x. Ok x) fault e) [
    | inl now ↦ begins_before fault (parts.faults d) (test_faults (at_key key ∷ []) test (parts.read d (λ x. Ok x))) now
    | inr never ↦ absurd (no_error never.1.0 fault never.1.1)
  ]

  pub at_first : {R : Type 0} (d : Data) (then : B → Result R Fault) (fault : Fault) → (refined_at key test parts).read d then ≡ Err fault → Begins fault ((refined_at key test parts).faults d) ⊎ (((refined_at key test parts).faults d ≡ []) × ((y : B) × (then y ≡ Err fault)))
  at_first d then fault e = elim (bind_err _ _ _ (sym (lawful.follows d (λ x. or_wrong_at (at_key key ∷ []) (test x) >>= then)) ∙ sym (at_same d then) ∙ e)) [
    | inl now ↦ inl (at_first_now d fault now)
    | inr on ↦ elim (bind_err _ _ _ on.2) [
      | inl late ↦ inl (at_first_late d fault on.0 on.1 late)
      | inr still ↦ inr (none_both (parts.faults d) (test_faults (at_key key ∷ []) test (parts.read d (λ x. Ok x))) (lawful.sound d (λ x. Ok x) on.0 on.1) (tested_none (at_key key ∷ []) test (parts.read d (λ x. Ok x)) on.0 still.0 on.1 (tested_ok _ _ _ still.1)), (still.0, still.2))
    ]
  ]

  pub refined_at_lawful : LawfulParts (refined_at key test parts)
  refined_at_lawful = record { grows = at_grows; reaches = at_reaches; found = at_found; only = at_only; sound = at_sound; follows = λ d then. bind_twice _ then; first = at_first }
