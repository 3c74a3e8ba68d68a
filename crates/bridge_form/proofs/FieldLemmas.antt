-- The slots of an object, as they are filled and read.
use Rattle.std.proofs.Common.{◌≡◌, ℕ, zero, suc, ◌+◌, ◌<◌, Bool, true, false, not, ◌||◌, ◌&&◌, List, [], ◌∷◌, ◌++◌, map, length, drop, get_or, replicate, take, Option, Some, None, option_map, option_and_then, is_some, Result, Ok, Err, String, Global, Ordering, Less, Equal, Greater, string_bytes, string_cmp, nat_cmp, is_eq, slice_get, slice_set, refl, sym, ap, ◌∙◌, bytes_eq, add-one, arith, if◌then◌else◌}
use Rattle.std.proofs.lemmas.List.{replicate_more}
use Rattle.std.proofs.lemmas.Map.Text.{is_eq-slice_cmp}
use Rattle.std.proofs.lemmas.Slice.Eq.{bytes_eq-Decides}
use Rattle.std.specs.Cmp.Lexicographic.{slice_cmp}
use Rattle.std.specs.List.{AllByRecursion}
use Rattle.std.specs.List.Sorted.{IsStrictlySortedBy}
use Rattle.std.specs.Map.{keys_of}
use Rattle.std.specs.Ordering.{match_ordering}
use Rattle.serde_json.specs.Data.{Data, Members, no_members, member, object}
use Rattle.serde_json.specs.Find.{get_member}
use Rattle.serde_json.specs.View.{view, members_view}
use Rattle.serde_json.specs.declared.value.Value.{Value}
use Rattle.bridge_form.specs.declared.keys.Key.{Key}
use Rattle.bridge_form.specs.declared.fault.Fault.{Fault}
use Rattle.bridge_form.specs.Keys.{key_text}
use Rattle.bridge_form.specs.Left.{Slots, slots_seen, are_apart}
use Rattle.bridge_form.specs.inside.Filling.{key_number, or_unknown, slots_after}
use Rattle.bridge_form.specs.Form.{members_in}
use Rattle.bridge_form.specs.Reading.{is_one_of, known, not_null, only, under, unless_known}
use Rattle.bridge_form.specs.Given.{Stops}
use Rattle.bridge_form.specs.declared.fault.ReadFault.{ReadFault}
use Rattle.bridge_form.specs.declared.fault.ReadFault.TheVariants.{Bad, NoMemory}

-- ---- the first place where a test holds, as a loop looks for it

here_at : (b : Bool) (others : Option ℕ) → b ≡ true → (if b then Some 0 else option_map (λ n. suc n) others) ≡ Some 0
here_at true others e = refl
here_at false others e = absurd cc

not_here : (b : Bool) (others : Option ℕ) → (if b then Some 0 else option_map (λ n. suc n) others) ≡ None → (b ≡ false) × (others ≡ None)
not_here true others e = absurd cc
not_here false None e = (refl, refl)
not_here false (Some n) e = absurd cc

-- ---- the first key with a text

found_key : (ks : List Key) (i : ℕ) (k : Key) (text : List ℕ) → i < length ks → key_number (take i ks) text ≡ None
    → bytes_eq (key_text (get_or ks i k)) text ≡ true → key_number ks text ≡ Some i
found_key [] i d text lt before e = absurd (omega arith)
found_key (k ∷ ks) zero d text lt before e = rw e refl
found_key (k ∷ ks) (suc i) d text lt before e =
    let h = not_here (bytes_eq (key_text k) text) (key_number (take i ks) text) before in
    rw (h.0, found_key ks i d text (omega arith) h.1 e) refl

no_key : (ks : List Key) (i : ℕ) (k : Key) (text : List ℕ) → i < length ks → key_number (take i ks) text ≡ None
    → bytes_eq (key_text (get_or ks i k)) text ≡ false → key_number (take (suc i) ks) text ≡ None
no_key [] i d text lt before e = absurd (omega arith)
no_key (k ∷ ks) zero d text lt before e = rw e refl
no_key (k ∷ ks) (suc i) d text lt before e =
    let h = not_here (bytes_eq (key_text k) text) (key_number (take i ks) text) before in
    rw (h.0, no_key ks i d text (omega arith) h.1 e) refl

pub found_key_here : (ks : List Key) (i : ℕ) (k : Key) (written text : List ℕ) → i < length ks → key_number (take i ks) text ≡ None
    → written ≡ key_text (get_or ks i k) → bytes_eq written text ≡ true → key_number ks text ≡ Some i
found_key_here ks i k written text lt before named e = found_key ks i k text lt before (rw (← named) e)

pub no_key_yet : (ks : List Key) (i : ℕ) (k : Key) (written text : List ℕ) → i < length ks → key_number (take i ks) text ≡ None
    → written ≡ key_text (get_or ks i k) → bytes_eq written text ≡ false → key_number (take (i + 1) ks) text ≡ None
no_key_yet ks i k written text lt before named e = rw add-one (no_key ks i k text lt before (rw (← named) e))

-- ---- slots

seen_more : (vs : List (Option Value)) (v : Option Value) → slots_seen (vs ++ v ∷ []) ≡ slots_seen vs ++ option_map view v ∷ []
seen_more [] v = refl
seen_more (x ∷ vs) v = ap (λ slots. option_map view x ∷ slots) (seen_more vs v)

pub one_empty_more : (vs : List (Option Value)) (v : Option Value) (n : ℕ) → slots_seen vs ≡ replicate n None → option_map view v ≡ None → slots_seen (vs ++ v ∷ []) ≡ replicate (n + 1) None
one_empty_more vs v n e none = seen_more vs v ∙ rw (none, e) (replicate_more n None)

pub seen_set : (vs : List (Option Value)) (n : ℕ) (v : Option Value) → slots_seen (slice_set vs n v) ≡ slice_set (slots_seen vs) n (option_map view v)
seen_set [] n v = refl
seen_set (x ∷ vs) zero v = refl
seen_set (x ∷ vs) (suc n) v = ap (λ slots. option_map view x ∷ slots) (seen_set vs n v)

seen_at : (vs : List (Option Value)) (n : ℕ) (d : Option Value) → n < length vs → slice_get (slots_seen vs) n ≡ Some (option_map view (get_or vs n d))
seen_at [] n d lt = absurd (omega arith)
seen_at (x ∷ vs) zero d lt = refl
seen_at (x ∷ vs) (suc n) d lt = seen_at vs n d (omega arith)

-- what is put there isn't seen after it
seen_after : (vs : List (Option Value)) (n : ℕ) (v : Option Value) → drop (suc n) (slots_seen (slice_set vs n v)) ≡ drop (suc n) (slots_seen vs)
seen_after [] n v = refl
seen_after (x ∷ vs) zero v = refl
seen_after (x ∷ vs) (suc n) v = seen_after vs n v

pub seen_past : (vs : List (Option Value)) (n : ℕ) (v : Option Value) → drop (n + 1) (slots_seen (slice_set vs n v)) ≡ drop (n + 1) (slots_seen vs)
seen_past vs n v = rw add-one (seen_after vs n v)

-- ---- the next key

at_drop : {A : Type 0} (all : List A) (n : ℕ) (other x : A) (xs : List A) → drop n all ≡ x ∷ xs → get_or all n other ≡ x
at_drop [] zero other x xs e = absurd cc
at_drop [] (suc n) other x xs e = absurd cc
at_drop (y ∷ all) zero other x xs e = cc
at_drop (y ∷ all) (suc n) other x xs e = at_drop all n other x xs e

got_drop : {A : Type 0} (all : List A) (n : ℕ) (x y : A) (xs : List A) → drop n all ≡ x ∷ xs → slice_get all n ≡ Some y → y ≡ x
got_drop [] zero x y xs e at = absurd cc
got_drop [] (suc n) x y xs e at = absurd cc
got_drop (z ∷ all) zero x y xs e at = cc
got_drop (z ∷ all) (suc n) x y xs e at = got_drop all n x y xs e at

after_drop : {A : Type 0} (all : List A) (n : ℕ) (x : A) (xs : List A) → drop n all ≡ x ∷ xs → drop (suc n) all ≡ xs
after_drop [] zero x xs e = absurd cc
after_drop [] (suc n) x xs e = absurd cc
after_drop (y ∷ all) zero x xs e = cc
after_drop (y ∷ all) (suc n) x xs e = after_drop all n x xs e

pub none_left : {A : Type 0} (all : List A) (n : ℕ) (x : A) (xs : List A) → ¬ (n < length all) → drop n all ≡ x ∷ xs → ⊥
none_left [] zero x xs le e = absurd cc
none_left [] (suc n) x xs le e = absurd cc
none_left (y ∷ all) zero x xs le e = le (omega arith)
none_left (y ∷ all) (suc n) x xs le e = none_left all n x xs (λ lt. le (omega (arith, lt))) e

seen_length : (vs : List (Option Value)) → length (slots_seen vs) ≡ length vs
seen_length [] = refl
seen_length (v ∷ vs) = ap suc (seen_length vs)

pub no_slot_left : (vs : List (Option Value)) (n : ℕ) (x : Option Data) (xs : Slots) → ¬ (n < length vs) → drop n (slots_seen vs) ≡ x ∷ xs → ⊥
no_slot_left vs n x xs le e = none_left (slots_seen vs) n x xs (λ lt. le (rw (← seen_length vs) lt)) e

pub pair_is : {A B : Type 0} {a c : A} {b d : B} → a ≡ c → b ≡ d → ◌≡◌ {A = A × B} (a, b) (c, d)
pair_is e f = rw (e, f) refl

module _ (all : List Key) (n : ℕ) (key other : Key) (keys : List Key) (d : Data) (slots : Slots) (left : drop n all ≡ key ∷ keys)
    (held : drop n slots ≡ map (λ k. under k d) (key ∷ keys)) where
  pub next_seen : (x : Option Data) → slice_get slots n ≡ Some x → (get_or all n other ≡ key) × (x ≡ under key d)
  next_seen x at = (at_drop all n other key keys left, got_drop slots n (under key d) x (map (λ k. under k d) keys) held at)

  pub next_left : (drop (n + 1) all ≡ keys) × (drop (n + 1) slots ≡ map (λ k. under k d) keys)
  next_left = rw add-one (after_drop all n key keys left, after_drop slots n (under key d) (map (λ k. under k d) keys) held)

-- ---- tests of keys

both : (b c : Bool) → b && c ≡ true → (b ≡ true) × (c ≡ true)
both true c e = (refl, e)
both false c e = absurd cc

neither : (b c : Bool) → b || c ≡ false → (b ≡ false) × (c ≡ false)
neither true c e = absurd cc
neither false c e = (refl, e)

none_of : (b : Bool) → not b ≡ true → b ≡ false
none_of true e = absurd cc
none_of false e = refl

-- ---- each name once

-- no name stands twice
abbrev AreDistinct : Members → Type 0
AreDistinct no_members = Unit {0}
AreDistinct (member text d ms) = (get_member text ms ≡ None) × AreDistinct ms

less_not_equal : (o : Ordering) (n d : Option Data) → o ≡ Less → n ≡ None → match_ordering o n d n ≡ None
less_not_equal Less n d e is = is
less_not_equal Equal n d e is = absurd cc
less_not_equal Greater n d e is = absurd cc

none_above : (text : String Global) (es : List (String Global × Value)) → AllByRecursion (λ y. string_cmp text y ≡ Less) (keys_of es) → get_member (string_bytes text) (members_view es) ≡ None
none_above text [] above = refl
none_above text (e ∷ es) above = less_not_equal (slice_cmp nat_cmp (string_bytes text) (string_bytes e.0)) (get_member (string_bytes text) (members_view es)) (Some (view e.1)) above.0 (none_above text es above.1)

distinct : (es : List (String Global × Value)) → IsStrictlySortedBy string_cmp (keys_of es) → AreDistinct (members_view es)
unfolding IsStrictlySortedBy
distinct [] sorted = tt
distinct (e ∷ es) sorted = (none_above e.0 es sorted.0, distinct es sorted.1)

-- ---- one member more

-- the member's value, in place of what lay there
abbrev latest : Option Data → Option Data → Option Data
latest x None = x
latest x (Some d) = not_null d

-- what lies in the slots when these members have been put there
abbrev over : List Key → Slots → Members → Slots
over [] slots ms = slots
over (k ∷ keys) [] ms = []
over (k ∷ keys) (x ∷ slots) ms = latest x (get_member (key_text k) ms) ∷ over keys slots ms

found_case : (o : Ordering) (b : Bool) (found : Option Data) (d : Data) → is_eq o ≡ b → match_ordering o found (Some d) found ≡ (if b then Some d else found)
found_case Less true found d e = absurd cc
found_case Less false found d e = refl
found_case Equal true found d e = refl
found_case Equal false found d e = absurd cc
found_case Greater true found d e = absurd cc
found_case Greater false found d e = refl

member_at : (k : Key) (text : List ℕ) (d : Data) (ms : Members) → get_member (key_text k) (member text d ms) ≡ (if bytes_eq (key_text k) text then Some d else get_member (key_text k) ms)
member_at k text d ms = found_case (slice_cmp nat_cmp (key_text k) text) (bytes_eq (key_text k) text) (get_member (key_text k) ms) d (is_eq-slice_cmp (key_text k) text)

reached : (k : Key) (text : List ℕ) (d : Data) (ms : Members) → bytes_eq (key_text k) text ≡ true → get_member (key_text k) (member text d ms) ≡ Some d
reached k text d ms same = member_at k text d ms ∙ rw same refl

passed : (k : Key) (text : List ℕ) (d : Data) (ms : Members) → bytes_eq (key_text k) text ≡ false → get_member (key_text k) (member text d ms) ≡ get_member (key_text k) ms
passed k text d ms other = member_at k text d ms ∙ rw other refl

unchanged : (keys : List Key) (slots : Slots) (text : List ℕ) (d : Data) (ms : Members) → is_one_of keys text ≡ false → over keys slots (member text d ms) ≡ over keys slots ms
unchanged [] slots text d ms none = refl
unchanged (k ∷ keys) [] text d ms none = refl
unchanged (k ∷ keys) (x ∷ slots) text d ms none =
    let h = neither (bytes_eq (key_text k) text) (is_one_of keys text) none in
    rw (passed k text d ms h.0, unchanged keys slots text d ms h.1) refl

module _ (k : Key) (keys : List Key) (x : Option Data) (slots : Slots) (text : List ℕ) (d : Data) (ms : Members) where
  put_here : is_one_of keys (key_text k) ≡ false → get_member text ms ≡ None → bytes_eq (key_text k) text ≡ true
      → over (k ∷ keys) (not_null d ∷ slots) ms ≡ over (k ∷ keys) (x ∷ slots) (member text d ms)
  put_here apart once same =
      let at : key_text k ≡ text = (bytes_eq-Decides (key_text k) text).0 same in
      let none : get_member (key_text k) ms ≡ None = rw at once in
      let others : over keys slots (member text d ms) ≡ over keys slots ms = unchanged keys slots text d ms (rw (← at) apart) in
      rw (reached k text d ms same, none, others) refl

  put_later : (n : ℕ) → bytes_eq (key_text k) text ≡ false → over keys (slice_set slots n (not_null d)) ms ≡ over keys slots (member text d ms)
      → over (k ∷ keys) (x ∷ slice_set slots n (not_null d)) ms ≡ over (k ∷ keys) (x ∷ slots) (member text d ms)
  put_later n other rest = rw (passed k text d ms other, rest) refl

  put_case : (b : Bool) (o : Option ℕ) (n : ℕ) → bytes_eq (key_text k) text ≡ b → (if b then Some 0 else option_map (λ n. suc n) o) ≡ Some n
      → is_one_of keys (key_text k) ≡ false → get_member text ms ≡ None
      → ((m : ℕ) → o ≡ Some m → over keys (slice_set slots m (not_null d)) ms ≡ over keys slots (member text d ms))
      → over (k ∷ keys) (slice_set (x ∷ slots) n (not_null d)) ms ≡ over (k ∷ keys) (x ∷ slots) (member text d ms)
  put_case true o n same e apart once rest = let is : n ≡ 0 = cc in rw is (put_here apart once same)
  put_case false None n other e apart once rest = absurd cc
  put_case false (Some m) n other e apart once rest = let is : n ≡ suc m = cc in rw is (put_later m other (rest m refl))

-- a member that is put into the slot of its key is one more of the members
put_over : (keys : List Key) (slots : Slots) (n : ℕ) (text : List ℕ) (d : Data) (ms : Members) → are_apart keys ≡ true → get_member text ms ≡ None → key_number keys text ≡ Some n
    → over keys (slice_set slots n (not_null d)) ms ≡ over keys slots (member text d ms)
unfolding are_apart
put_over [] slots n text d ms apart once e = absurd cc
put_over (k ∷ keys) [] n text d ms apart once e = refl
put_over (k ∷ keys) (x ∷ slots) n text d ms apart once e =
    let h = both (not (is_one_of keys (key_text k))) (are_apart keys) apart in
    put_case k keys x slots text d ms (bytes_eq (key_text k) text) (key_number keys text) n refl e (none_of (is_one_of keys (key_text k)) h.0) once
    (λ m is. put_over keys slots m text d ms h.1 once is)

-- ---- all members

over_none : (keys : List Key) (slots : Slots) → over keys slots no_members ≡ slots
over_none [] slots = refl
over_none (k ∷ keys) [] = refl
over_none (k ∷ keys) (x ∷ slots) = ap (λ others. x ∷ others) (over_none keys slots)

given : {A : Type 0} (o : Option ℕ) (text : List ℕ) (next : ℕ → Result A Fault) (found : A) → or_unknown o text next ≡ Ok found → (n : ℕ) × (o ≡ Some n) × (next n ≡ Ok found)
given None text next found e = absurd cc
given (Some n) text next found e = (n, refl, e)

ok_is : (one other : Slots) → ◌≡◌ {A = Result Slots Fault} (Ok one) (Ok other) → one ≡ other
ok_is one other e = cc

slots_after_over : (keys : List Key) (slots : Slots) (ms : Members) (found : Slots) → are_apart keys ≡ true → AreDistinct ms → slots_after keys slots ms ≡ Ok found → found ≡ over keys slots ms
slots_after_over keys slots no_members found apart once e = sym (ok_is slots found e) ∙ sym (over_none keys slots)
slots_after_over keys slots (member text d ms) found apart once e =
    let h = given (key_number keys text) text (λ n. slots_after keys (slice_set slots n (not_null d)) ms) found e in
    slots_after_over keys (slice_set slots h.0 (not_null d)) ms found apart once.1 h.2 ∙ put_over keys slots h.0 text d ms apart once.0 h.1

latest_none : (o : Option Data) → latest None o ≡ option_and_then not_null o
latest_none None = refl
latest_none (Some d) = refl

over_empty : (keys : List Key) (ms : Members) → over keys (replicate (length keys) None) ms ≡ map (λ k. under k (object ms)) keys
unfolding under
over_empty [] ms = refl
over_empty (k ∷ keys) ms = rw (latest_none (get_member (key_text k) ms), over_empty keys ms) refl

-- ---- unknown keys

-- whether there are some
abbrev unit_of : {A : Type 0} → Result A Fault → Result (Unit {0}) Fault
unit_of (Ok x) = Ok tt
unit_of (Err fault) = Err fault

-- a key of a text has a number
knows : (keys : List Key) (text : List ℕ) → is_some (key_number keys text) ≡ is_one_of keys text
knows [] text = refl
knows (k ∷ keys) text = knows_at (bytes_eq (key_text k) text) (key_number keys text) (is_one_of keys text) (knows keys text)
  where
    knows_at : (b : Bool) (others : Option ℕ) (one : Bool) → is_some others ≡ one → is_some (if b then Some 0 else option_map (λ n. suc n) others) ≡ b || one
    knows_at true others one e = refl
    knows_at false None one e = e
    knows_at false (Some n) one e = e

known_case : {A : Type 0} (o : Option ℕ) (one : Bool) (text : List ℕ) (next : ℕ → Result A Fault) (others : Result (Unit {0}) Fault) → is_some o ≡ one
    → ((n : ℕ) → unit_of (next n) ≡ others) → unit_of (or_unknown o text next) ≡ unless_known one text others
known_case None true text next others e is = absurd cc
known_case None false text next others e is = refl
known_case (Some n) true text next others e is = is n
known_case (Some n) false text next others e is = absurd cc

-- members are refused where one has a key that is none of these, with its fault
as_known : (keys : List Key) (slots : Slots) (ms : Members) → unit_of (slots_after keys slots ms) ≡ known keys ms
as_known keys slots no_members = refl
as_known keys slots (member text d ms) = known_case (key_number keys text) (is_one_of keys text) text (λ n. slots_after keys (slice_set slots n (not_null d)) ms) (known keys ms)
    (knows keys text) (λ n. as_known keys (slice_set slots n (not_null d)) ms)

-- ---- the whole object

is_object : (d : Data) (ms : Members) → members_in d ≡ Ok ms → d ≡ object ms
unfolding members_in
is_object Data.null ms e = absurd cc
is_object (Data.boolean b) ms e = absurd cc
is_object (Data.number n) ms e = absurd cc
is_object (Data.string s) ms e = absurd cc
is_object (Data.array ds) ms e = absurd cc
is_object (object held) ms e = cc

module _ (keys : List Key) (es : List (String Global × Value)) (apart : are_apart keys ≡ true) (sorted : IsStrictlySortedBy string_cmp (keys_of es)) where
  pub opened : (d : Data) (found : Slots) → members_in d ≡ Ok (members_view es) → slots_after keys (replicate (length keys) None) (members_view es) ≡ Ok found
      → (only keys d ≡ Ok tt) × (found ≡ map (λ k. under k d) keys)
  unfolding only
  opened d found is e =
      let ms = members_view es in
      let at = is_object d ms is in
      rw at (sym (as_known keys (replicate (length keys) None) ms) ∙ ap unit_of e, slots_after_over keys (replicate (length keys) None) ms found apart (distinct es sorted) e ∙ over_empty keys ms)

  pub refused : (d : Data) (fault : ReadFault) → members_in d ≡ Ok (members_view es) → Stops fault (slots_after keys (replicate (length keys) None) (members_view es)) → Stops fault (only keys d)
  unfolding only
  refused d NoMemory is e = tt
  refused d (Bad fault) is e =
      let ms = members_view es in
      let at = is_object d ms is in
      rw at (sym (as_known keys (replicate (length keys) None) ms) ∙ ap unit_of e)

pub no_object : (keys : List Key) (d : Data) (fault : ReadFault) → Stops fault (members_in d) → Stops fault (only keys d)
unfolding members_in only
no_object keys d NoMemory e = tt
no_object keys Data.null (Bad fault) e = cc
no_object keys (Data.boolean b) (Bad fault) e = cc
no_object keys (Data.number n) (Bad fault) e = cc
no_object keys (Data.string s) (Bad fault) e = cc
no_object keys (Data.array ds) (Bad fault) e = cc
no_object keys (object ms) (Bad fault) e = absurd cc
