-- The laws of lists of two.
use Rattle.std.proofs.Common.{◌≡◌, [], ◌∷◌, Ok, Err, refl, ap, subst, inl, inr}
use Rattle.serde_json.specs.Data.{Data, null, boolean, number, string, array, object, Items, no_items, item}
use Rattle.bridge_form.specs.declared.fault.Fault.{Fault}
use Rattle.bridge_form.specs.Reading.{◌>>=◌, entries_of}
use Rattle.bridge_form.specs.Form.{Form, Each, each_faults, never, two_entries, pair_read, two_of, IsTwo, two_faults, pair_faults, two}
use Rattle.bridge_form.proofs.FormLaws.{Begins, Lawful, bind_ok, bind_err, inside_ok, no_error, ok_is, begins_after, none_within, none_both, each_first_now}

-- ---- lists of two

module _ {A : Type 0} (form : Form A) (lawful : Lawful form) where
  pub pair_found : (d e : Data) (pair : A × A) → pair_read form.read (d, e) ≡ Ok pair → form.Spells d pair.0 × (form.Spells e pair.1 × Unit {0})
  pair_found d e pair h =
      let first = bind_ok _ _ _ h in
      let second = bind_ok _ _ _ first.2 in
      let is = ok_is (first.0, second.0) pair second.2 in
      (subst (form.Spells d) (ap (λ p. p.0) is) (lawful.found d first.0 (inside_ok _ _ _ first.1)), (subst (form.Spells e) (ap (λ p. p.1) is) (lawful.found e second.0 (inside_ok _ _ _ second.1)), tt))

  pub pair_only : (d e : Data) (pair : A × A) → form.Spells d pair.0 → form.Spells e pair.1 → pair_read form.read (d, e) ≡ Ok pair
  pair_only d e pair h k = rw (lawful.only d pair.0 h, lawful.only e pair.1 k) refl

  pub pair_sound : (d e : Data) (pair : A × A) → pair_read form.read (d, e) ≡ Ok pair → each_faults form.faults 0 (item d (item e no_items)) ≡ []
  pair_sound d e pair h =
      let first = bind_ok _ _ _ h in
      let second = bind_ok _ _ _ first.2 in
      none_both _ _ (none_within _ _ (lawful.sound d first.0 (inside_ok _ _ _ first.1))) (none_both _ _ (none_within _ _ (lawful.sound e second.0 (inside_ok _ _ _ second.1))) refl)

  pub pair_first : (d e : Data) (fault : Fault) → pair_read form.read (d, e) ≡ Err fault → Begins fault (each_faults form.faults 0 (item d (item e no_items)))
  pair_first d e fault h = elim (bind_err _ _ _ h) [
    | inl now ↦ each_first_now form lawful 0 d (item e no_items) fault now
    | inr on ↦ elim (bind_err _ _ _ on.2) [
      | inl later ↦ begins_after fault _ _ (none_within _ _ (lawful.sound d on.0 (inside_ok _ _ _ on.1))) (each_first_now form lawful 1 e no_items fault later)
      | inr never ↦ absurd (no_error _ _ never.2)
    ]
  ]

  pub entries_found : (ds : Items) (pair : A × A) → (two_entries ds >>= pair_read form.read) ≡ Ok pair → Each form.Spells ds (pair.0 ∷ pair.1 ∷ [])
  entries_found no_items pair h = absurd cc
  entries_found (item d no_items) pair h = absurd cc
  entries_found (item d (item e no_items)) pair h = pair_found d e pair h
  entries_found (item d (item e (item f ds))) pair h = absurd cc

  pub entries_only : (ds : Items) (pair : A × A) → Each form.Spells ds (pair.0 ∷ pair.1 ∷ []) → (two_entries ds >>= pair_read form.read) ≡ Ok pair
  entries_only no_items pair h = absurd h
  entries_only (item d no_items) pair h = absurd h.1
  entries_only (item d (item e no_items)) pair h = pair_only d e pair h.0 h.1.0
  entries_only (item d (item e (item f ds))) pair h = absurd h.1.1

  pub entries_sound : (ds : Items) (pair : A × A) → (two_entries ds >>= pair_read form.read) ≡ Ok pair → two_faults form.faults ds ≡ []
  entries_sound no_items pair h = absurd cc
  entries_sound (item d no_items) pair h = absurd cc
  entries_sound (item d (item e no_items)) pair h = pair_sound d e pair h
  entries_sound (item d (item e (item f ds))) pair h = absurd cc

  pub entries_first : (ds : Items) (fault : Fault) → (two_entries ds >>= pair_read form.read) ≡ Err fault → Begins fault (two_faults form.faults ds)
  entries_first no_items fault h = record { rest = []; is = cc }
  entries_first (item d no_items) fault h = record { rest = []; is = cc }
  entries_first (item d (item e no_items)) fault h = pair_first d e fault h
  entries_first (item d (item e (item f ds))) fault h = record { rest = []; is = cc }

  pub two_found : (d : Data) (pair : A × A) → two_of form.read d ≡ Ok pair → IsTwo form.Spells d pair
  unfolding entries_of
  two_found null pair h = absurd cc
  two_found (boolean b) pair h = absurd cc
  two_found (number n) pair h = absurd cc
  two_found (string s) pair h = absurd cc
  two_found (array ds) pair h = entries_found ds pair h
  two_found (object ms) pair h = absurd cc

  pub two_only : (d : Data) (pair : A × A) → IsTwo form.Spells d pair → two_of form.read d ≡ Ok pair
  unfolding entries_of
  two_only null pair h = absurd h
  two_only (boolean b) pair h = absurd h
  two_only (number n) pair h = absurd h
  two_only (string s) pair h = absurd h
  two_only (array ds) pair h = entries_only ds pair h
  two_only (object ms) pair h = absurd h

  pub two_sound : (d : Data) (pair : A × A) → two_of form.read d ≡ Ok pair → pair_faults form.faults d ≡ []
  unfolding entries_of
  two_sound null pair h = absurd cc
  two_sound (boolean b) pair h = absurd cc
  two_sound (number n) pair h = absurd cc
  two_sound (string s) pair h = absurd cc
  two_sound (array ds) pair h = entries_sound ds pair h
  two_sound (object ms) pair h = absurd cc

  pub two_first : (d : Data) (fault : Fault) → two_of form.read d ≡ Err fault → Begins fault (pair_faults form.faults d)
  unfolding entries_of
  two_first null fault h = record { rest = []; is = cc }
  two_first (boolean b) fault h = record { rest = []; is = cc }
  two_first (number n) fault h = record { rest = []; is = cc }
  two_first (string s) fault h = record { rest = []; is = cc }
  two_first (array ds) fault h = entries_first ds fault h
  two_first (object ms) fault h = record { rest = []; is = cc }

  pub two_lawful : Lawful (two form)
  two_lawful = record { found = two_found; only = two_only; sound = two_sound; first = two_first }
