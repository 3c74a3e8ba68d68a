-- The laws of objects with any keys.
use Rattle.std.proofs.Common.{◌≡◌, ℕ, List, [], ◌∷◌, ◌++◌, Option, Some, None, Result, Ok, Err, refl, sym, ap, subst, ◌∙◌, inl, inr}
use Rattle.serde_json.specs.Data.{Data, null, boolean, number, string, array, object, Members, no_members, member}
use Rattle.bridge_form.specs.declared.fault.Fault.{Fault}
use Rattle.bridge_form.specs.declared.pointer.Step.TheVariants as step
use Rattle.bridge_form.specs.Reading.{◌>>=◌, not_null, inside}
use Rattle.bridge_form.specs.Form.{Form, member_of, members_of, members_in, EntryIs, EachEntry, IsDictionary, member_faults, members_faults, dictionary_faults, dictionary}
use Rattle.bridge_form.proofs.FormLaws.{Begins, Lawful, bind_ok, bind_err, inside_ok, inside_err, no_error, ok_is, begins_within, begins_before, begins_after, none_within, none_both}

module _ {A : Type 0} (form : Form A) (lawful : Lawful form) where
  abbrev Entries : Type 0
  Entries = List (List ℕ × A)

  -- what is read of one member and then of the others
  abbrev both : List ℕ → Option Data → Result Entries Fault → Result Entries Fault
  both name o rest = member_of form.read name o >>= (λ first. rest >>= (λ others. Ok (first ++ others)))

  entry_found : (name : List ℕ) (o : Option Data) (rest : Result Entries Fault) (Rest : Entries → Type 0) (xs : Entries)
      → ((ys : Entries) → rest ≡ Ok ys → Rest ys) → both name o rest ≡ Ok xs → EntryIs form.Spells name o Rest xs
  entry_found name None rest Rest xs next e =
      let others = bind_ok _ _ _ e in
      subst Rest (ok_is others.0 xs others.2) (next others.0 others.1)
  entry_found name (Some d) rest Rest xs next e =
      let first = bind_ok _ _ _ e in
      let x = bind_ok _ _ _ first.1 in
      let others = bind_ok _ _ _ first.2 in
      let is : (name, x.0) ∷ others.0 ≡ xs = ap (λ ys. ys ++ others.0) (ok_is ((name, x.0) ∷ []) first.0 x.2) ∙ ok_is (first.0 ++ others.0) xs others.2 in
      subst (EntryIs form.Spells name (Some d) Rest) is (refl, lawful.found d x.0 (inside_ok _ _ _ x.1), next others.0 others.1)

  members_found : (ms : Members) (xs : Entries) → members_of form.read ms ≡ Ok xs → EachEntry form.Spells ms xs
  members_found no_members [] e = tt
  members_found no_members (x ∷ xs) e = absurd cc
  members_found (member name d ms) xs e = entry_found name (not_null d) (members_of form.read ms) (EachEntry form.Spells ms) xs (members_found ms) e

  entry_only : (name : List ℕ) (o : Option Data) (rest : Result Entries Fault) (Rest : Entries → Type 0) (xs : Entries)
      → ((ys : Entries) → Rest ys → rest ≡ Ok ys) → EntryIs form.Spells name o Rest xs → both name o rest ≡ Ok xs
  entry_only name None rest Rest xs next h = rw (next xs h) refl
  entry_only name (Some d) rest Rest [] next h = absurd h
  entry_only name (Some d) rest Rest (x ∷ xs) next h = rw (lawful.only d x.1 h.1, next xs h.2) (ap (λ n. Ok ((n, x.1) ∷ xs)) (sym h.0))

  members_only : (ms : Members) (xs : Entries) → EachEntry form.Spells ms xs → members_of form.read ms ≡ Ok xs
  members_only no_members [] h = refl
  members_only no_members (x ∷ xs) h = absurd h
  members_only (member name d ms) xs h = entry_only name (not_null d) (members_of form.read ms) (EachEntry form.Spells ms) xs (members_only ms) h

  entry_sound : (name : List ℕ) (o : Option Data) (rest : Result Entries Fault) (faults : List Fault) (xs : Entries)
      → ((ys : Entries) → rest ≡ Ok ys → faults ≡ []) → both name o rest ≡ Ok xs → member_faults form.faults name o ++ faults ≡ []
  entry_sound name None rest faults xs next e =
      let others = bind_ok _ _ _ e in
      next others.0 others.1
  entry_sound name (Some d) rest faults xs next e =
      let first = bind_ok _ _ _ e in
      let x = bind_ok _ _ _ first.1 in
      let others = bind_ok _ _ _ first.2 in
      none_both _ _ (none_within _ _ (lawful.sound d x.0 (inside_ok _ _ _ x.1))) (next others.0 others.1)

  members_sound : (ms : Members) (xs : Entries) → members_of form.read ms ≡ Ok xs → members_faults form.faults ms ≡ []
  members_sound no_members xs e = refl
  members_sound (member name d ms) xs e = entry_sound name (not_null d) (members_of form.read ms) (members_faults form.faults ms) xs (members_sound ms) e

  entry_now : (name : List ℕ) (d : Data) (faults : List Fault) (fault : Fault) → inside (step.Member name) (form.read d) ≡ Err fault
      → Begins fault (member_faults form.faults name (Some d) ++ faults)
  entry_now name d faults fault e =
      let inner = inside_err _ _ _ e in
      subst (λ f. Begins f (member_faults form.faults name (Some d) ++ faults)) inner.2 (begins_before _ _ faults (begins_within (step.Member name) _ _ (lawful.first d inner.0 inner.1)))

  entry_first : (name : List ℕ) (o : Option Data) (rest : Result Entries Fault) (faults : List Fault) (fault : Fault)
      → (rest ≡ Err fault → Begins fault faults) → both name o rest ≡ Err fault → Begins fault (member_faults form.faults name o ++ faults)
  entry_first name None rest faults fault next e = elim (bind_err rest _ _ e) [
    | inl now ↦ next now
    | inr end ↦ absurd (no_error _ _ end.2)
  ]
  entry_first name (Some d) rest faults fault next e = elim (bind_err (member_of form.read name (Some d)) _ _ e) [
    | inl now ↦ elim (bind_err (inside (step.Member name) (form.read d)) _ _ now) [
      | inl bad_value ↦ entry_now name d faults fault bad_value
      | inr end ↦ absurd (no_error _ _ end.2)
    ]
    | inr on ↦ entry_later name d rest faults fault next on.0 on.1 on.2
  ]
    where
      entry_later : (name : List ℕ) (d : Data) (rest : Result Entries Fault) (faults : List Fault) (fault : Fault)
          → (rest ≡ Err fault → Begins fault faults) → (first : Entries) → member_of form.read name (Some d) ≡ Ok first
          → (rest >>= (λ others. Ok (first ++ others))) ≡ Err fault → Begins fault (member_faults form.faults name (Some d) ++ faults)
      entry_later name d rest faults fault next first is e = elim (bind_err rest _ _ e) [
        | inl later ↦
            let x = bind_ok (inside (step.Member name) (form.read d)) _ _ is in
            begins_after fault _ _ (none_within _ _ (lawful.sound d x.0 (inside_ok _ _ _ x.1))) (next later)
        | inr end ↦ absurd (no_error _ _ end.2)
      ]

  members_first : (ms : Members) (fault : Fault) → members_of form.read ms ≡ Err fault → Begins fault (members_faults form.faults ms)
  members_first no_members fault e = absurd cc
  members_first (member name d ms) fault e = entry_first name (not_null d) (members_of form.read ms) (members_faults form.faults ms) fault (members_first ms fault) e

  dictionary_found : (d : Data) (xs : List (List ℕ × A)) → (dictionary form).read d ≡ Ok xs → IsDictionary form.Spells d xs
  unfolding members_in
  dictionary_found null xs e = absurd cc
  dictionary_found (boolean b) xs e = absurd cc
  dictionary_found (number n) xs e = absurd cc
  dictionary_found (string s) xs e = absurd cc
  dictionary_found (array ds) xs e = absurd cc
  dictionary_found (object ms) xs e = members_found ms xs e

  dictionary_only : (d : Data) (xs : List (List ℕ × A)) → IsDictionary form.Spells d xs → (dictionary form).read d ≡ Ok xs
  unfolding members_in
  dictionary_only null xs h = absurd h
  dictionary_only (boolean b) xs h = absurd h
  dictionary_only (number n) xs h = absurd h
  dictionary_only (string s) xs h = absurd h
  dictionary_only (array ds) xs h = absurd h
  dictionary_only (object ms) xs h = members_only ms xs h

  dictionary_sound : (d : Data) (xs : List (List ℕ × A)) → (dictionary form).read d ≡ Ok xs → dictionary_faults form.faults d ≡ []
  unfolding members_in
  dictionary_sound null xs e = absurd cc
  dictionary_sound (boolean b) xs e = absurd cc
  dictionary_sound (number n) xs e = absurd cc
  dictionary_sound (string s) xs e = absurd cc
  dictionary_sound (array ds) xs e = absurd cc
  dictionary_sound (object ms) xs e = members_sound ms xs e

  dictionary_first : (d : Data) (fault : Fault) → (dictionary form).read d ≡ Err fault → Begins fault (dictionary_faults form.faults d)
  unfolding members_in
  dictionary_first null fault e = record { rest = []; is = cc }
  dictionary_first (boolean b) fault e = record { rest = []; is = cc }
  dictionary_first (number n) fault e = record { rest = []; is = cc }
  dictionary_first (string s) fault e = record { rest = []; is = cc }
  dictionary_first (array ds) fault e = record { rest = []; is = cc }
  dictionary_first (object ms) fault e = members_first ms fault e

  pub dictionary_lawful : Lawful (dictionary form)
  dictionary_lawful = record { found = dictionary_found; only = dictionary_only; sound = dictionary_sound; first = dictionary_first }
