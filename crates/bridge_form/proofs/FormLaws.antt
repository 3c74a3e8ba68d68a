-- The three parts of a form agree: what is read is spelled so and has no fault, what is spelled is read, and else the first fault
-- is told. First of single values and of lists.
use Rattle.std.proofs.Common.{◌≡◌, ℕ, ◌+◌, List, [], ◌∷◌, ◌++◌, map, Result, Ok, Err, refl, ap, subst, inl, inr}
use Rattle.std.specs.Prelude.{◌⊎◌}
use Rattle.serde_json.specs.Data.{Data, null, boolean, number, string, array, object, Items, no_items, item}
use Rattle.bridge_form.specs.declared.fault.Fault.{Fault}
use Rattle.bridge_form.specs.declared.pointer.Step.{Step}
use Rattle.bridge_form.specs.declared.pointer.Step.TheVariants as step
use Rattle.bridge_form.specs.Reading.{◌>>=◌, within, inside, list_of, each_of, entries_of}
use Rattle.bridge_form.specs.Form.{Form, Parts, single, fault_of, Each, each_faults, IsList, list_faults, list, never}

-- the fault stands first
pub record Begins (fault : Fault) (faults : List Fault) : Type 0 where
  pub rest : List Fault
  pub is : faults ≡ fault ∷ rest

pub record Lawful {A : Type 0} (form : Form A) : Type 0 where
  pub found : (d : Data) (x : A) → form.read d ≡ Ok x → form.Spells d x
  pub only : (d : Data) (x : A) → form.Spells d x → form.read d ≡ Ok x
  pub sound : (d : Data) (x : A) → form.read d ≡ Ok x → form.faults d ≡ []
  pub first : (d : Data) (fault : Fault) → form.read d ≡ Err fault → Begins fault (form.faults d)

pub record LawfulParts {A : Type 0} (parts : Parts A) : Type 1 where
  pub grows : (d : Data) (K L : A → Type 0) → ((x : A) → K x → L x) → parts.Spell d K → parts.Spell d L
  pub reaches : (d : Data) (C : Type 0) → parts.Spell d (λ x. C) → C
  pub found : {R : Type 0} (d : Data) (then : A → Result R Fault) (r : R) → parts.read d then ≡ Ok r → parts.Spell d (λ x. then x ≡ Ok r)
  pub only : {R : Type 0} (d : Data) (then : A → Result R Fault) (r : R) → parts.Spell d (λ x. then x ≡ Ok r) → parts.read d then ≡ Ok r
  pub sound : {R : Type 0} (d : Data) (then : A → Result R Fault) (r : R) → parts.read d then ≡ Ok r → parts.faults d ≡ []
  pub follows : {R : Type 0} (d : Data) (then : A → Result R Fault) → parts.read d then ≡ (parts.read d (λ x. Ok x) >>= then)
  pub first : {R : Type 0} (d : Data) (then : A → Result R Fault) (fault : Fault) → parts.read d then ≡ Err fault → Begins fault (parts.faults d) ⊎ ((parts.faults d ≡ []) × ((x : A) × (then x ≡ Err fault)))

-- ---- steps

abbrev pub refuse : {A : Type 0} → Result A Fault → Result (Unit {0}) Fault
refuse (Ok x) = Ok tt
refuse (Err fault) = Err fault

abbrev pub bad : Fault → Result (Unit {0}) Fault
bad fault = Err fault

abbrev pub good : {A : Type 0} → A → Result A Fault
good x = Ok x

pub bind_ok : {A B : Type 0} (read : Result A Fault) (then : A → Result B Fault) (y : B) → (read >>= then) ≡ Ok y → (x : A) × (read ≡ Ok x) × (then x ≡ Ok y)
bind_ok (Ok x) then y e = (x, refl, e)
bind_ok (Err fault) then y e = absurd cc

pub bind_err : {A B : Type 0} (read : Result A Fault) (then : A → Result B Fault) (fault : Fault) → (read >>= then) ≡ Err fault → (read ≡ Err fault) ⊎ ((x : A) × (read ≡ Ok x) × (then x ≡ Err fault))
bind_err (Ok x) then fault e = inr (x, refl, e)
bind_err (Err other) then fault e = inl (cc)

pub inside_ok : {A : Type 0} (s : Step) (read : Result A Fault) (x : A) → inside s read ≡ Ok x → read ≡ Ok x
inside_ok s (Ok y) x e = e
inside_ok s (Err fault) x e = absurd cc

pub inside_err : {A : Type 0} (s : Step) (read : Result A Fault) (fault : Fault) → inside s read ≡ Err fault → (inner : Fault) × (read ≡ Err inner) × (within s inner ≡ fault)
inside_err s (Ok y) fault e = absurd cc
inside_err s (Err inner) fault e = (inner, refl, cc)

pub no_error : {A : Type 0} (x : A) (fault : Fault) → (Ok x ≡ Err fault) → ⊥
no_error x fault e = absurd cc

pub err_is : (x y : Fault) → bad x ≡ bad y → x ≡ y
err_is x y e = cc

pub ok_is : {A : Type 0} (x y : A) → good x ≡ good y → x ≡ y
ok_is x y e = cc

-- a step whose result is taken as it is
pub bind_twice : {A B : Type 0} (read : Result A Fault) (then : A → Result B Fault) → (read >>= then) ≡ ((read >>= (λ x. Ok x)) >>= then)
bind_twice (Ok x) then = refl
bind_twice (Err fault) then = refl

pub bind_each : {A B C : Type 0} (read : Result A Fault) (f : A → Result C Fault) (g : A → Result B Fault) (then : B → Result C Fault) → ((x : A) → f x ≡ (g x >>= then)) → (read >>= f) ≡ ((read >>= g) >>= then)
bind_each (Ok x) f g then e = e x
bind_each (Err fault) f g then e = refl

-- ---- single values

pub single_at : {A : Type 0} (read : Result A Fault) (fault : Fault) → read ≡ Err fault → Begins fault (fault_of read)
single_at (Ok x) fault e = absurd cc
single_at (Err other) fault e = record { rest = []; is = cc }

pub single_none : {A : Type 0} (read : Result A Fault) (x : A) → read ≡ Ok x → fault_of read ≡ []
single_none (Ok y) x e = refl
single_none (Err fault) x e = absurd cc

pub single_lawful : {A : Type 0} (read : Data → Result A Fault) → Lawful (single read)
single_lawful read =
    record {
      found = λ d x e. e;
      only = λ d x e. e;
      sound = λ d x e. single_none (read d) x e;
      first = λ d fault e. single_at (read d) fault e;
    }

-- ---- lists of faults

pub begins_within : (s : Step) (fault : Fault) (faults : List Fault) → Begins fault faults → Begins (within s fault) (map (within s) faults)
begins_within s fault faults b = record { rest = map (within s) b.rest; is = ap (λ fs. map (within s) fs) b.is }

pub begins_before : (fault : Fault) (faults others : List Fault) → Begins fault faults → Begins fault (faults ++ others)
begins_before fault faults others b = record { rest = b.rest ++ others; is = ap (λ fs. fs ++ others) b.is }

pub begins_after : (fault : Fault) (faults others : List Fault) → faults ≡ [] → Begins fault others → Begins fault (faults ++ others)
begins_after fault faults others e b = record { rest = b.rest; is = rw e b.is }

pub none_within : (s : Step) (faults : List Fault) → faults ≡ [] → map (within s) faults ≡ []
none_within s faults e = rw e refl

pub none_both : (faults others : List Fault) → faults ≡ [] → others ≡ [] → faults ++ others ≡ []
none_both faults others e h = rw (e, h) refl

-- ---- lists

module _ {A : Type 0} (form : Form A) (lawful : Lawful form) where
  pub each_found : (n : ℕ) (ds : Items) (xs : List A) → each_of form.read n ds ≡ Ok xs → Each form.Spells ds xs
  each_found n no_items [] e = tt
  each_found n no_items (x ∷ xs) e = absurd cc
  each_found n (item d ds) xs e =
      let first = bind_ok _ _ _ e in
      let others = bind_ok _ _ _ first.2 in
      subst (λ ys. Each form.Spells (item d ds) ys) (ok_is (first.0 ∷ others.0) xs others.2) (lawful.found d first.0 (inside_ok _ _ _ first.1), each_found (n + 1) ds others.0 others.1)

  pub each_only : (n : ℕ) (ds : Items) (xs : List A) → Each form.Spells ds xs → each_of form.read n ds ≡ Ok xs
  each_only n no_items [] h = refl
  each_only n no_items (x ∷ xs) h = absurd h
  each_only n (item d ds) [] h = absurd h
  each_only n (item d ds) (x ∷ xs) h = rw (lawful.only d x h.0, each_only (n + 1) ds xs h.1) refl

  pub each_sound : (n : ℕ) (ds : Items) (xs : List A) → each_of form.read n ds ≡ Ok xs → each_faults form.faults n ds ≡ []
  each_sound n no_items xs e = refl
  each_sound n (item d ds) xs e =
      let first = bind_ok _ _ _ e in
      let others = bind_ok _ _ _ first.2 in
      none_both _ _ (none_within _ _ (lawful.sound d first.0 (inside_ok _ _ _ first.1))) (each_sound (n + 1) ds others.0 others.1)

  pub each_first_now : (n : ℕ) (d : Data) (ds : Items) (fault : Fault) → inside (step.Index n) (form.read d) ≡ Err fault → Begins fault (each_faults form.faults n (item d ds))
  each_first_now n d ds fault e =
      let inner = inside_err _ _ _ e in
      subst (λ f. Begins f (each_faults form.faults n (item d ds))) inner.2 (begins_before _ _ (each_faults form.faults (n + 1) ds) (begins_within (step.Index n) _ _ (lawful.first d inner.0 inner.1)))

  pub each_first : (n : ℕ) (ds : Items) (fault : Fault) → each_of form.read n ds ≡ Err fault → Begins fault (each_faults form.faults n ds)
  each_first n no_items fault e = absurd cc
  each_first n (item d ds) fault e = elim (bind_err _ _ _ e) [
    | inl now ↦ each_first_now n d ds fault now
    | inr on ↦ elim (bind_err _ _ _ on.2) [
      | inl later ↦ begins_after _ _ _ (none_within _ _ (lawful.sound d on.0 (inside_ok _ _ _ on.1))) (each_first (n + 1) ds fault later)
      | inr never ↦ absurd (no_error _ _ never.2)
    ]
  ]

  pub list_found : (d : Data) (xs : List A) → list_of form.read d ≡ Ok xs → IsList form.Spells d xs
  unfolding entries_of
  list_found null xs e = absurd cc
  list_found (boolean b) xs e = absurd cc
  list_found (number n) xs e = absurd cc
  list_found (string s) xs e = absurd cc
  list_found (array ds) xs e = each_found 0 ds xs e
  list_found (object ms) xs e = absurd cc

  pub list_only : (d : Data) (xs : List A) → IsList form.Spells d xs → list_of form.read d ≡ Ok xs
  unfolding entries_of
  list_only null xs h = absurd h
  list_only (boolean b) xs h = absurd h
  list_only (number n) xs h = absurd h
  list_only (string s) xs h = absurd h
  list_only (array ds) xs h = each_only 0 ds xs h
  list_only (object ms) xs h = absurd h

  pub list_sound : (d : Data) (xs : List A) → list_of form.read d ≡ Ok xs → list_faults form.faults d ≡ []
  unfolding entries_of
  list_sound null xs e = absurd cc
  list_sound (boolean b) xs e = absurd cc
  list_sound (number n) xs e = absurd cc
  list_sound (string s) xs e = absurd cc
  list_sound (array ds) xs e = each_sound 0 ds xs e
  list_sound (object ms) xs e = absurd cc

  pub list_first : (d : Data) (fault : Fault) → list_of form.read d ≡ Err fault → Begins fault (list_faults form.faults d)
  unfolding entries_of
  list_first null fault e = record { rest = []; is = cc }
  list_first (boolean b) fault e = record { rest = []; is = cc }
  list_first (number n) fault e = record { rest = []; is = cc }
  list_first (string s) fault e = record { rest = []; is = cc }
  list_first (array ds) fault e = each_first 0 ds fault e
  list_first (object ms) fault e = record { rest = []; is = cc }

  pub list_lawful : Lawful (list form)
  list_lawful = record { found = list_found; only = list_only; sound = list_sound; first = list_first }
