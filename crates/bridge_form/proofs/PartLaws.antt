-- The laws of the parts of objects.
use Rattle.std.proofs.Common.{◌≡◌, [], Option, Some, None, Result, Ok, Err, refl, sym, ap, subst, ◌∙◌, inl, inr}
use Rattle.std.specs.Prelude.{◌⊎◌}
use Rattle.serde_json.specs.Data.{Data}
use Rattle.bridge_form.specs.declared.keys.Key.{Key}
use Rattle.bridge_form.specs.declared.fault.Fault.{Fault}
use Rattle.bridge_form.specs.Reading.{◌>>=◌, inside, at_key, under, needed_of, optional_of, option_ok, held_of}
use Rattle.bridge_form.specs.Form.{Form, Parts, made, ◌&◌, inside_faults, NeededAt, needed_faults, needs, OptionalAt, optional_faults, may_have, HeldAt, may_be, told, skips, grouped, may_be_by}
use Rattle.bridge_form.proofs.FormLaws.{Begins, Lawful, LawfulParts, bind_ok, bind_err, inside_ok, inside_err, bind_twice, bind_each, begins_within, begins_before, begins_after, none_within, none_both}

-- ---- parts

pub made_lawful : {A : Type 0} (x : A) → LawfulParts (made x)
made_lawful x =
    record {
      grows = λ d K L more k. more x k;
      reaches = λ d C h. h;
      found = λ d then r e. e;
      only = λ d then r e. e;
      sound = λ d then r e. refl;
      follows = λ d then. refl;
      first = λ d then fault e. inr (refl, (x, e));
    }

module _ {A B : Type 0} (first : Parts (A → B)) (second : Parts A) (lawful : LawfulParts first) (next : LawfulParts second) where
  pub both_grows : (d : Data) (K L : B → Type 0) → ((x : B) → K x → L x) → (first & second).Spell d K → (first & second).Spell d L
  both_grows d K L more h = lawful.grows d (λ f. second.Spell d (λ x. K (f x))) (λ f. second.Spell d (λ x. L (f x))) (λ f s. next.grows d (λ x. K (f x)) (λ x. L (f x)) (λ x k. more (f x) k) s) h

  pub both_reaches : (d : Data) (C : Type 0) → (first & second).Spell d (λ x. C) → C
  both_reaches d C h = lawful.reaches d C (lawful.grows d (λ f. second.Spell d (λ x. C)) (λ f. C) (λ f s. next.reaches d C s) h)

  pub both_found : {R : Type 0} (d : Data) (then : B → Result R Fault) (r : R) → (first & second).read d then ≡ Ok r → (first & second).Spell d (λ x. then x ≡ Ok r)
  both_found d then r e = lawful.grows d (λ f. second.read d (λ x. then (f x)) ≡ Ok r) (λ f. second.Spell d (λ x. then (f x) ≡ Ok r)) (λ f s. next.found d (λ x. then (f x)) r s) (lawful.found d (λ f. second.read d (λ x. then (f x))) r e)

  pub both_only : {R : Type 0} (d : Data) (then : B → Result R Fault) (r : R) → (first & second).Spell d (λ x. then x ≡ Ok r) → (first & second).read d then ≡ Ok r
  both_only d then r h = lawful.only d (λ f. second.read d (λ x. then (f x))) r (lawful.grows d (λ f. second.Spell d (λ x. then (f x) ≡ Ok r)) (λ f. second.read d (λ x. then (f x)) ≡ Ok r) (λ f s. next.only d (λ x. then (f x)) r s) h)

  pub both_sound : {R : Type 0} (d : Data) (then : B → Result R Fault) (r : R) → (first & second).read d then ≡ Ok r → (first & second).faults d ≡ []
  both_sound d then r e =
      none_both (first.faults d) (second.faults d) (lawful.sound d (λ f. second.read d (λ x. then (f x))) r e)
      (lawful.reaches d (second.faults d ≡ []) (lawful.grows d (λ f. second.read d (λ x. then (f x)) ≡ Ok r) (λ f. second.faults d ≡ []) (λ f s. next.sound d (λ x. then (f x)) r s) (lawful.found d (λ f. second.read d (λ x. then (f x))) r e)))

  pub both_first : {R : Type 0} (d : Data) (then : B → Result R Fault) (fault : Fault) → (first & second).read d then ≡ Err fault → Begins fault ((first & second).faults d) ⊎ (((first & second).faults d ≡ []) × ((x : B) × (then x ≡ Err fault)))
  both_first d then fault e = elim (lawful.first d (λ f. second.read d (λ x. then (f x))) fault e) [
    | inl now ↦ inl (begins_before fault (first.faults d) (second.faults d) now)
    | inr on ↦ elim (next.first d (λ x. then (on.1.0 x)) fault on.1.1) [
      | inl later ↦ inl (begins_after fault (first.faults d) (second.faults d) on.0 later)
      | inr still ↦ inr (none_both (first.faults d) (second.faults d) on.0 still.0, (on.1.0 still.1.0, still.1.1))
    ]
  ]

  pub both_follows : {R : Type 0} (d : Data) (then : B → Result R Fault) → (first & second).read d then ≡ ((first & second).read d (λ x. Ok x) >>= then)
  both_follows d then =
      lawful.follows d (λ f. second.read d (λ x. then (f x)))
      ∙ (bind_each (first.read d (λ f. Ok f)) (λ f. second.read d (λ x. then (f x))) (λ f. second.read d (λ x. Ok (f x))) then (λ f. next.follows d (λ x. then (f x)) ∙ bind_each (second.read d (λ x. Ok x)) (λ x. then (f x)) (λ x. Ok (f x)) then (λ x. refl) ∙ ap (λ r. r >>= then) (sym (next.follows d (λ x. Ok (f x)))))
      ∙ ap (λ r. r >>= then) (sym (lawful.follows d (λ f. second.read d (λ x. Ok (f x))))))

  pub both_lawful : LawfulParts (first & second)
  both_lawful = record { grows = both_grows; reaches = both_reaches; found = both_found; only = both_only; sound = both_sound; follows = both_follows; first = both_first }

-- ---- what stands under a key

module _ {A : Type 0} (form : Form A) (key : Key) (lawful : Lawful form) where
  pub need_grows : (o : Option Data) (K L : A → Type 0) → ((x : A) → K x → L x) → NeededAt form o K → NeededAt form o L
  need_grows None K L more h = h
  need_grows (Some d) K L more h = (h.0, h.1, more h.0 h.2)

  pub need_reaches : (o : Option Data) (C : Type 0) → NeededAt form o (λ x. C) → C
  need_reaches None C h = absurd h
  need_reaches (Some d) C h = h.2

  pub need_found : {R : Type 0} (o : Option Data) (then : A → Result R Fault) (r : R) → (needed_of form.read key o >>= then) ≡ Ok r → NeededAt form o (λ x. then x ≡ Ok r)
  need_found None then r e = absurd cc
  need_found (Some d) then r e =
      let h = bind_ok _ _ _ e in
      (h.0, lawful.found d h.0 (inside_ok _ _ _ h.1), h.2)

  pub need_only : {R : Type 0} (o : Option Data) (then : A → Result R Fault) (r : R) → NeededAt form o (λ x. then x ≡ Ok r) → (needed_of form.read key o >>= then) ≡ Ok r
  need_only None then r h = absurd h
  need_only (Some d) then r h = rw (lawful.only d h.0 h.1) h.2

  pub need_sound : {R : Type 0} (o : Option Data) (then : A → Result R Fault) (r : R) → (needed_of form.read key o >>= then) ≡ Ok r → needed_faults form key o ≡ []
  need_sound None then r e = absurd cc
  need_sound (Some d) then r e =
      let h = bind_ok _ _ _ e in
      none_within _ _ (lawful.sound d h.0 (inside_ok _ _ _ h.1))

  pub need_now : (d : Data) (fault : Fault) → inside (at_key key) (form.read d) ≡ Err fault → Begins fault (inside_faults key (form.faults d))
  need_now d fault e =
      let inner = inside_err _ _ _ e in
      subst (λ f. Begins f (inside_faults key (form.faults d))) inner.2 (begins_within (at_key key) _ _ (lawful.first d inner.0 inner.1))

  pub need_first : {R : Type 0} (o : Option Data) (then : A → Result R Fault) (fault : Fault) → (needed_of form.read key o >>= then) ≡ Err fault → Begins fault (needed_faults form key o) ⊎ ((needed_faults form key o ≡ []) × ((x : A) × (then x ≡ Err fault)))
  need_first None then fault e = inl (record { rest = []; is = cc })
  need_first (Some d) then fault e = elim (bind_err _ _ _ e) [
    | inl now ↦ inl (need_now d fault now)
    | inr on ↦ inr (none_within _ _ (lawful.sound d on.0 (inside_ok _ _ _ on.1)), (on.0, on.2))
  ]

  pub needs_lawful : LawfulParts (needs key form)
  needs_lawful =
      record {
        grows = λ d. need_grows (under key d);
        reaches = λ d. need_reaches (under key d);
        found = λ d. need_found (under key d);
        only = λ d. need_only (under key d);
        sound = λ d. need_sound (under key d);
        follows = λ d then. bind_twice _ then;
        first = λ d. need_first (under key d);
      }

-- ---- what may stand under a key

module _ {A : Type 0} (form : Form A) (key : Key) (absent : A) (lawful : Lawful form) where
  pub held_grows : (o : Option Data) (K L : A → Type 0) → ((x : A) → K x → L x) → HeldAt form absent o K → HeldAt form absent o L
  held_grows None K L more h = more absent h
  held_grows (Some d) K L more h = (h.0, h.1, more h.0 h.2)

  pub held_reaches : (o : Option Data) (C : Type 0) → HeldAt form absent o (λ x. C) → C
  held_reaches None C h = h
  held_reaches (Some d) C h = h.2

  pub held_found : {R : Type 0} (o : Option Data) (then : A → Result R Fault) (r : R) → (held_of absent form.read key o >>= then) ≡ Ok r → HeldAt form absent o (λ x. then x ≡ Ok r)
  held_found None then r e = e
  held_found (Some d) then r e =
      let h = bind_ok _ _ _ e in
      (h.0, lawful.found d h.0 (inside_ok _ _ _ h.1), h.2)

  pub held_only : {R : Type 0} (o : Option Data) (then : A → Result R Fault) (r : R) → HeldAt form absent o (λ x. then x ≡ Ok r) → (held_of absent form.read key o >>= then) ≡ Ok r
  held_only None then r h = h
  held_only (Some d) then r h = rw (lawful.only d h.0 h.1) h.2

  pub held_sound : {R : Type 0} (o : Option Data) (then : A → Result R Fault) (r : R) → (held_of absent form.read key o >>= then) ≡ Ok r → optional_faults form key o ≡ []
  held_sound None then r e = refl
  held_sound (Some d) then r e =
      let h = bind_ok _ _ _ e in
      none_within _ _ (lawful.sound d h.0 (inside_ok _ _ _ h.1))

  pub held_first : {R : Type 0} (o : Option Data) (then : A → Result R Fault) (fault : Fault) → (held_of absent form.read key o >>= then) ≡ Err fault → Begins fault (optional_faults form key o) ⊎ ((optional_faults form key o ≡ []) × ((x : A) × (then x ≡ Err fault)))
  held_first None then fault e = inr (refl, (absent, e))
  held_first (Some d) then fault e = elim (bind_err _ _ _ e) [
    | inl now ↦ inl (need_now form key lawful d fault now)
    | inr on ↦ inr (none_within _ _ (lawful.sound d on.0 (inside_ok _ _ _ on.1)), (on.0, on.2))
  ]

  pub may_be_lawful : LawfulParts (may_be key form absent)
  may_be_lawful =
      record {
        grows = λ d. held_grows (under key d);
        reaches = λ d. held_reaches (under key d);
        found = λ d. held_found (under key d);
        only = λ d. held_only (under key d);
        sound = λ d. held_sound (under key d);
        follows = λ d then. bind_twice _ then;
        first = λ d. held_first (under key d);
      }

pub option_is : {A : Type 0} (read : Result A Fault) (x : Option A) → option_ok read ≡ Ok x → (y : A) × (read ≡ Ok y) × (x ≡ Some y)
option_is (Ok y) x e = (y, refl, cc)
option_is (Err fault) x e = absurd cc

pub option_err : {A : Type 0} (read : Result A Fault) (fault : Fault) → option_ok read ≡ Err fault → read ≡ Err fault
option_err (Ok y) fault e = absurd cc
option_err (Err other) fault e = cc

module _ {A : Type 0} (form : Form A) (key : Key) (lawful : Lawful form) where
  pub may_grows : (o : Option Data) (K L : Option A → Type 0) → ((x : Option A) → K x → L x) → OptionalAt form o K → OptionalAt form o L
  may_grows None K L more h = more None h
  may_grows (Some d) K L more h = (h.0, h.1, more (Some h.0) h.2)

  pub may_reaches : (o : Option Data) (C : Type 0) → OptionalAt form o (λ x. C) → C
  may_reaches None C h = h
  may_reaches (Some d) C h = h.2

  pub may_found : {R : Type 0} (o : Option Data) (then : Option A → Result R Fault) (r : R) → (optional_of form.read key o >>= then) ≡ Ok r → OptionalAt form o (λ x. then x ≡ Ok r)
  may_found None then r e = e
  may_found (Some d) then r e =
      let h = bind_ok _ _ _ e in
      let y = option_is _ _ h.1 in
      (y.0, lawful.found d y.0 (inside_ok _ _ _ y.1), rw (← y.2) h.2)

  pub may_only : {R : Type 0} (o : Option Data) (then : Option A → Result R Fault) (r : R) → OptionalAt form o (λ x. then x ≡ Ok r) → (optional_of form.read key o >>= then) ≡ Ok r
  may_only None then r h = h
  may_only (Some d) then r h = rw (lawful.only d h.0 h.1) h.2

  pub may_sound : {R : Type 0} (o : Option Data) (then : Option A → Result R Fault) (r : R) → (optional_of form.read key o >>= then) ≡ Ok r → optional_faults form key o ≡ []
  may_sound None then r e = refl
  may_sound (Some d) then r e =
      let h = bind_ok _ _ _ e in
      let y = option_is _ _ h.1 in
      none_within _ _ (lawful.sound d y.0 (inside_ok _ _ _ y.1))

  pub may_first : {R : Type 0} (o : Option Data) (then : Option A → Result R Fault) (fault : Fault) → (optional_of form.read key o >>= then) ≡ Err fault → Begins fault (optional_faults form key o) ⊎ ((optional_faults form key o ≡ []) × ((x : Option A) × (then x ≡ Err fault)))
  may_first None then fault e = inr (refl, (None, e))
  may_first (Some d) then fault e = elim (bind_err _ _ _ e) [
    | inl now ↦ inl (need_now form key lawful d fault (option_err _ _ now))
    | inr on ↦ let y = option_is _ _ on.1 in inr (none_within _ _ (lawful.sound d y.0 (inside_ok _ _ _ y.1)), (on.0, on.2))
  ]

  pub may_have_lawful : LawfulParts (may_have key form)
  may_have_lawful =
      record {
        grows = λ d. may_grows (under key d);
        reaches = λ d. may_reaches (under key d);
        found = λ d. may_found (under key d);
        only = λ d. may_only (under key d);
        sound = λ d. may_sound (under key d);
        follows = λ d then. bind_twice _ then;
        first = λ d. may_first (under key d);
      }

pub skips_lawful : (key : Key) → LawfulParts (skips key)
skips_lawful key =
    record {
      grows = λ d K L more k. more tt k;
      reaches = λ d C h. h;
      found = λ d then r e. e;
      only = λ d then r e. e;
      sound = λ d then r e. refl;
      follows = λ d then. refl;
      first = λ d then fault e. inr (refl, (tt, e));
    }

pub told_lawful : {A : Type 0} (f : Data → A) → LawfulParts (told f)
told_lawful f =
    record {
      grows = λ d K L more k. more (f d) k;
      reaches = λ d C h. h;
      found = λ d then r e. e;
      only = λ d then r e. e;
      sound = λ d then r e. refl;
      follows = λ d then. refl;
      first = λ d then fault e. inr (refl, (f d, e));
    }

pub grouped_lawful : {A : Type 0} (parts : Parts A) → LawfulParts parts → LawfulParts (grouped parts)
grouped_lawful parts lawful =
    record {
      grows = lawful.grows;
      reaches = lawful.reaches;
      found = λ d then r e. lawful.found d then r (lawful.follows d then ∙ e);
      only = λ d then r h. sym (lawful.follows d then) ∙ lawful.only d then r h;
      sound = λ d then r e. lawful.sound d then r (lawful.follows d then ∙ e);
      follows = λ d then. bind_twice _ then;
      first = λ d then fault e. lawful.first d then fault (lawful.follows d then ∙ e);
    }

module _ {A : Type 0} (key : Key) (form : Data → Form A) (absent : A) (lawful : (d : Data) → Lawful (form d)) where
  pub may_be_by_lawful : LawfulParts (may_be_by key form absent)
  may_be_by_lawful =
      record {
        grows = λ d. held_grows (form d) key absent (lawful d) (under key d);
        reaches = λ d. held_reaches (form d) key absent (lawful d) (under key d);
        found = λ d. held_found (form d) key absent (lawful d) (under key d);
        only = λ d. held_only (form d) key absent (lawful d) (under key d);
        sound = λ d. held_sound (form d) key absent (lawful d) (under key d);
        follows = λ d then. bind_twice _ then;
        first = λ d. held_first (form d) key absent (lawful d) (under key d);
      }
