-- The laws of alternatives.
use Rattle.std.proofs.Common.{◌≡◌, ◌∙◌, ℕ, List, [], ◌∷◌, ◌++◌, Option, Some, None, Result, Ok, Err, refl, sym, ap, inl, inr}
use Rattle.serde_json.specs.Data.{Data, null, boolean, number, string, array, object}
use Rattle.serde_json.specs.Find.{as_str}
use Rattle.bridge_form.specs.declared.keys.Key.{Key}
use Rattle.bridge_form.specs.declared.fault.InputKind.TheVariants as kind
use Rattle.bridge_form.specs.declared.fault.Fault.{Fault}
use Rattle.bridge_form.specs.Reading.{◌>>=◌, here, inside, at_key, under, known, only, needed_of}
use Rattle.bridge_form.specs.Form.{Form, unknown_keys, needed_faults, TextOr, text_or, word_or, live, IsSole, sole_faults, sole, sole_under, one_of_faults, one_of, never, ChosenAt, arm_faults, chosen_faults, object_of, chosen_by}
use Rattle.bridge_form.proofs.FormLaws.{Begins, Lawful, refuse, bind_ok, bind_err, inside_ok, no_error, err_is, begins_before, begins_after, none_within, none_both}
use Rattle.bridge_form.proofs.PartLaws.{need_sound, need_now}
use Rattle.bridge_form.proofs.ObjectLaws.{known_none, unknown_first, only_has, has_only_ok}

-- ---- alternatives

module _ {A : Type 0} (words other : Form A) (lawful : Lawful words) (rest : Lawful other) where
  pub word_found : (o : Option (List ℕ)) (d : Data) (x : A) → text_or o (words.read d) (other.read d) ≡ Ok x → TextOr o (words.Spells d x) (other.Spells d x)
  word_found (Some t) d x e = lawful.found d x e
  word_found None d x e = rest.found d x e

  pub word_only : (o : Option (List ℕ)) (d : Data) (x : A) → TextOr o (words.Spells d x) (other.Spells d x) → text_or o (words.read d) (other.read d) ≡ Ok x
  word_only (Some t) d x h = lawful.only d x h
  word_only None d x h = rest.only d x h

  pub word_sound : (o : Option (List ℕ)) (d : Data) (x : A) → text_or o (words.read d) (other.read d) ≡ Ok x → text_or o (words.faults d) (other.faults d) ≡ []
  word_sound (Some t) d x e = lawful.sound d x e
  word_sound None d x e = rest.sound d x e

  pub word_first : (o : Option (List ℕ)) (d : Data) (fault : Fault) → text_or o (words.read d) (other.read d) ≡ Err fault → Begins fault (text_or o (words.faults d) (other.faults d))
  word_first (Some t) d fault e = lawful.first d fault e
  word_first None d fault e = rest.first d fault e

  pub word_or_lawful : Lawful (word_or words other)
  word_or_lawful = record { found = λ d. word_found (as_str d) d; only = λ d. word_only (as_str d) d; sound = λ d. word_sound (as_str d) d; first = λ d. word_first (as_str d) d }

pub never_lawful : {A : Type 0} → Lawful (never {A = A})
never_lawful = record { found = λ d x e. absurd (no_error x (here kind.WrongForm) (sym e)); only = λ d x h. absurd h; sound = λ d x e. absurd (no_error x (here kind.WrongForm) (sym e)); first = λ d fault e. record { rest = []; is = ap (λ f. f ∷ []) (err_is _ _ (ap refuse e)) } }

module _ {A : Type 0} (keys : List Key) (arm : Key → Form A) where
  abbrev pub sole_read : List (Key × Data) → Result A Fault
  sole_read ones = sole ones >>= (λ one. inside (at_key one.0) ((arm one.0).read one.1))

  pub all_before : (r : Result (Unit {0}) Fault) (one : Result (Key × Data) Fault) (next : Key × Data → Result A Fault) → ((r >>= (λ known. one)) >>= next) ≡ (r >>= (λ known. one >>= next))
  all_before (Ok u) one next = refl
  all_before (Err fault) one next = refl

  pub one_of_is : (d : Data) → (one_of keys arm).read d ≡ (only keys d >>= (λ known. sole_read (live keys d)))
  unfolding sole_under
  one_of_is d = all_before (only keys d) (sole (live keys d)) (λ one. inside (at_key one.0) ((arm one.0).read one.1))

module _ {A : Type 0} (keys : List Key) (arm : Key → Form A) (lawful : (key : Key) → Lawful (arm key)) where
  pub sole_found : (ones : List (Key × Data)) (x : A) → (sole ones >>= (λ one. inside (at_key one.0) ((arm one.0).read one.1))) ≡ Ok x → IsSole arm ones x
  sole_found [] x e = absurd cc
  sole_found (one ∷ []) x e = (lawful one.0).found one.1 x (inside_ok _ _ _ e)
  sole_found (one ∷ other ∷ others) x e = absurd cc

  pub sole_only : (ones : List (Key × Data)) (x : A) → IsSole arm ones x → (sole ones >>= (λ one. inside (at_key one.0) ((arm one.0).read one.1))) ≡ Ok x
  sole_only [] x h = absurd h
  sole_only (one ∷ []) x h = rw ((lawful one.0).only one.1 x h) refl
  sole_only (one ∷ other ∷ others) x h = absurd h

  pub sole_sound : (ones : List (Key × Data)) (x : A) → (sole ones >>= (λ one. inside (at_key one.0) ((arm one.0).read one.1))) ≡ Ok x → sole_faults arm ones ≡ []
  sole_sound [] x e = absurd cc
  sole_sound (one ∷ []) x e = none_within _ _ ((lawful one.0).sound one.1 x (inside_ok _ _ _ e))
  sole_sound (one ∷ other ∷ others) x e = absurd cc

  pub sole_first : (ones : List (Key × Data)) (fault : Fault) → (sole ones >>= (λ one. inside (at_key one.0) ((arm one.0).read one.1))) ≡ Err fault → Begins fault (sole_faults arm ones)
  sole_first [] fault e = record { rest = []; is = cc }
  sole_first (one ∷ []) fault e = need_now (arm one.0) one.0 (lawful one.0) one.1 fault e
  sole_first (one ∷ other ∷ others) fault e = record { rest = []; is = cc }

  pub one_of_found : (d : Data) (x : A) → (one_of keys arm).read d ≡ Ok x → (one_of keys arm).Spells d x
  one_of_found d x e =
      let known = bind_ok _ _ _ (sym (one_of_is keys arm d) ∙ e) in
      (only_has keys d known.1, sole_found (live keys d) x known.2)

  pub one_of_only : (d : Data) (x : A) → (one_of keys arm).Spells d x → (one_of keys arm).read d ≡ Ok x
  one_of_only d x h = one_of_is keys arm d ∙ rw (has_only_ok keys d h.0) (sole_only (live keys d) x h.1)

  pub one_of_sound : (d : Data) (x : A) → (one_of keys arm).read d ≡ Ok x → one_of_faults keys arm d ≡ []
  unfolding only sole_under
  one_of_sound null x e = absurd cc
  one_of_sound (boolean b) x e = absurd cc
  one_of_sound (number n) x e = absurd cc
  one_of_sound (string s) x e = absurd cc
  one_of_sound (array ds) x e = absurd cc
  one_of_sound (object ms) x e =
      let all = bind_ok (known keys ms) _ _ (sym (one_of_is keys arm (object ms)) ∙ e) in
      none_both (unknown_keys keys ms) (sole_faults arm (live keys (object ms))) (known_none keys ms all.1) (sole_sound (live keys (object ms)) x all.2)

  pub one_of_first : (d : Data) (fault : Fault) → (one_of keys arm).read d ≡ Err fault → Begins fault (one_of_faults keys arm d)
  unfolding only sole_under
  one_of_first null fault e = record { rest = []; is = cc }
  one_of_first (boolean b) fault e = record { rest = []; is = cc }
  one_of_first (number n) fault e = record { rest = []; is = cc }
  one_of_first (string s) fault e = record { rest = []; is = cc }
  one_of_first (array ds) fault e = record { rest = []; is = cc }
  one_of_first (object ms) fault e = elim (bind_err (known keys ms) _ _ (sym (one_of_is keys arm (object ms)) ∙ e)) [
    | inl now ↦ begins_before fault (unknown_keys keys ms) (sole_faults arm (live keys (object ms))) (unknown_first keys ms fault now)
    | inr on ↦ begins_after fault (unknown_keys keys ms) (sole_faults arm (live keys (object ms))) (known_none keys ms on.1) (sole_first (live keys (object ms)) fault on.2)
  ]

  pub one_of_lawful : Lawful (one_of keys arm)
  one_of_lawful = record { found = one_of_found; only = one_of_only; sound = one_of_sound; first = one_of_first }

-- ---- objects whose form depends on what stands under a key

module _ {K A : Type 0} (key : Key) (kinds : Form K) (arm : K → Form A) (lawful : Lawful kinds) (arms : (k : K) → Lawful (arm k)) where
  pub chosen_found_at : (d : Data) (o : Option Data) (x : A) → (needed_of kinds.read key o >>= (λ k. (arm k).read d)) ≡ Ok x → ChosenAt kinds arm d o x
  chosen_found_at d None x h = absurd cc
  chosen_found_at d (Some written) x h =
      let k = bind_ok _ _ _ h in
      (k.0, lawful.found written k.0 (inside_ok _ _ _ k.1), (arms k.0).found d x k.2)

  pub chosen_only_at : (d : Data) (o : Option Data) (x : A) → ChosenAt kinds arm d o x → (needed_of kinds.read key o >>= (λ k. (arm k).read d)) ≡ Ok x
  chosen_only_at d None x h = absurd h
  chosen_only_at d (Some written) x h = rw (lawful.only written h.0 h.1) ((arms h.0).only d x h.2)

  pub chosen_quiet : (d : Data) (o : Option Data) (k : K) (x : A) → needed_of kinds.read key o ≡ Ok k → (arm k).read d ≡ Ok x → arm_faults arm d (needed_of kinds.read key o) ≡ []
  chosen_quiet d o k x e h = rw e ((arms k).sound d x h)

  pub chosen_sound_at : (d : Data) (o : Option Data) (x : A) → (needed_of kinds.read key o >>= (λ k. (arm k).read d)) ≡ Ok x → needed_faults kinds key o ++ arm_faults arm d (needed_of kinds.read key o) ≡ []
  chosen_sound_at d o x h =
      let k = bind_ok (needed_of kinds.read key o) (λ k. (arm k).read d) x h in
      none_both (needed_faults kinds key o) (arm_faults arm d (needed_of kinds.read key o)) (need_sound kinds key lawful o (λ k. (arm k).read d) x h) (chosen_quiet d o k.0 x k.1 k.2)

  pub chosen_late : (d : Data) (o : Option Data) (fault : Fault) (k : K) → needed_of kinds.read key o ≡ Ok k → (arm k).read d ≡ Err fault → needed_faults kinds key o ≡ [] → Begins fault (needed_faults kinds key o ++ arm_faults arm d (needed_of kinds.read key o))
  chosen_late d o fault k e h none = begins_after fault (needed_faults kinds key o) (arm_faults arm d (needed_of kinds.read key o)) none (rw e ((arms k).first d fault h))

  pub chosen_now : (d : Data) (o : Option Data) (fault : Fault) → needed_of kinds.read key o ≡ Err fault → Begins fault (needed_faults kinds key o)
  chosen_now d None fault e = record { rest = []; is = cc }
  chosen_now d (Some written) fault e = need_now kinds key lawful written fault e

  pub chosen_first_at : (d : Data) (o : Option Data) (fault : Fault) → (needed_of kinds.read key o >>= (λ k. (arm k).read d)) ≡ Err fault → Begins fault (needed_faults kinds key o ++ arm_faults arm d (needed_of kinds.read key o))
  chosen_first_at d o fault h = elim (bind_err _ _ _ h) [
    | inl now ↦ begins_before fault (needed_faults kinds key o) (arm_faults arm d (needed_of kinds.read key o)) (chosen_now d o fault now)
    | inr on ↦ chosen_late d o fault on.0 on.1 on.2 (need_sound kinds key lawful o (λ k. Ok k) on.0 (rw on.1 refl))
  ]

  pub chosen_found : (d : Data) (x : A) → (chosen_by key kinds arm).read d ≡ Ok x → ChosenAt kinds arm d (under key d) x
  chosen_found d x h = let is = bind_ok (object_of d) (λ (is : Unit {0}). needed_of kinds.read key (under key d) >>= (λ k. (arm k).read d)) x h in chosen_found_at d (under key d) x is.2

  pub chosen_only : (d : Data) (x : A) → ChosenAt kinds arm d (under key d) x → (chosen_by key kinds arm).read d ≡ Ok x
  unfolding under object_of
  chosen_only null x h = absurd h
  chosen_only (boolean b) x h = absurd h
  chosen_only (number n) x h = absurd h
  chosen_only (string s) x h = absurd h
  chosen_only (array ds) x h = absurd h
  chosen_only (object ms) x h = chosen_only_at (object ms) (under key (object ms)) x h

  pub chosen_sound : (d : Data) (x : A) → (chosen_by key kinds arm).read d ≡ Ok x → chosen_faults key kinds arm d ≡ []
  unfolding object_of
  chosen_sound null x h = absurd cc
  chosen_sound (boolean b) x h = absurd cc
  chosen_sound (number n) x h = absurd cc
  chosen_sound (string s) x h = absurd cc
  chosen_sound (array ds) x h = absurd cc
  chosen_sound (object ms) x h = chosen_sound_at (object ms) (under key (object ms)) x h

  pub chosen_first : (d : Data) (fault : Fault) → (chosen_by key kinds arm).read d ≡ Err fault → Begins fault (chosen_faults key kinds arm d)
  unfolding object_of
  chosen_first null fault h = record { rest = []; is = cc }
  chosen_first (boolean b) fault h = record { rest = []; is = cc }
  chosen_first (number n) fault h = record { rest = []; is = cc }
  chosen_first (string s) fault h = record { rest = []; is = cc }
  chosen_first (array ds) fault h = record { rest = []; is = cc }
  chosen_first (object ms) fault h = chosen_first_at (object ms) (under key (object ms)) fault h

  pub chosen_lawful : Lawful (chosen_by key kinds arm)
  chosen_lawful = record { found = chosen_found; only = chosen_only; sound = chosen_sound; first = chosen_first }
