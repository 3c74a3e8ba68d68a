-- Reading a JSON value: what it is read as, or its first fault.
use Rattle.std.specs.Prelude.{ℕ, ◌+◌, List, [], ◌∷◌, Bool, true, false, ◌||◌, ◌&&◌, Option, Some, None, option_and_then, Result, Ok, Err, ℤ, nat_lt, if◌then◌else◌}
use Rattle.std.specs.Str.{bytes_eq}
use Rattle.serde_json.specs.Data.{Data, null, boolean, number, string, array, object, Items, no_items, item, Members, no_members, member}
use Rattle.serde_json.specs.Find.{get, as_number, as_u64, as_i64, as_bool}
use Rattle.bridge_form.specs.declared.keys.Key.{Key}
use Rattle.bridge_form.specs.declared.fault.InputKind.{InputKind}
use Rattle.bridge_form.specs.declared.fault.InputKind.TheVariants as kind
use Rattle.bridge_form.specs.declared.fault.Fault.{Fault}
use Rattle.bridge_form.specs.declared.pointer.Step.{Step}
use Rattle.bridge_form.specs.declared.pointer.Step.TheVariants as step
use Rattle.bridge_form.specs.Keys.{key_text}

-- a fault of the value itself
abbrev pub here : InputKind → Fault
here kind = record { kind = kind; at = [] }

-- a fault of a value inside, as one of the value around it
abbrev pub within : Step → Fault → Fault
within step fault = record { kind = fault.kind; at = step ∷ fault.at }

-- what is read of a value inside, or the fault as one of the value around it
abbrev pub inside : {A : Type 0} → Step → Result A Fault → Result A Fault
inside step (Ok x) = Ok x
inside step (Err fault) = Err (within step fault)

infixl 10 ◌>>=◌
abbrev pub ◌>>=◌ : {A B : Type 0} → Result A Fault → (A → Result B Fault) → Result B Fault
(Ok x) >>= f = f x
(Err fault) >>= f = Err fault

-- a value that isn't null
abbrev pub not_null : Data → Option Data
not_null null = None
not_null (boolean b) = Some (boolean b)
not_null (number n) = Some (number n)
not_null (string s) = Some (string s)
not_null (array ds) = Some (array ds)
not_null (object ms) = Some (object ms)

-- what stands under a key of an object; an absent key and null stand for nothing
unfoldable pub under : Key → Data → Option Data
under k d = option_and_then not_null (get (key_text k) d)

abbrev pub at_key : Key → Step
at_key k = step.Member (key_text k)

-- ---- parts of objects

abbrev pub needed_of : {A : Type 0} → (Data → Result A Fault) → Key → Option Data → Result A Fault
needed_of read key None = Err (here kind.MissingKey)
needed_of read key (Some d) = inside (at_key key) (read d)

abbrev pub option_ok : {A : Type 0} → Result A Fault → Result (Option A) Fault
option_ok (Ok x) = Ok (Some x)
option_ok (Err fault) = Err fault

abbrev pub optional_of : {A : Type 0} → (Data → Result A Fault) → Key → Option Data → Result (Option A) Fault
optional_of read key None = Ok None
optional_of read key (Some d) = option_ok (inside (at_key key) (read d))

abbrev pub held_of : {A : Type 0} → A → (Data → Result A Fault) → Key → Option Data → Result A Fault
held_of absent read key None = Ok absent
held_of absent read key (Some d) = inside (at_key key) (read d)

-- ---- lists

abbrev pub each_of : {A : Type 0} → (Data → Result A Fault) → ℕ → Items → Result (List A) Fault
each_of read n no_items = Ok []
each_of read n (item d ds) = do
  first ← inside (step.Index n) (read d)
  others ← each_of read (n + 1) ds
  Ok (first ∷ others)

unfoldable pub entries_of : Data → Result Items Fault
entries_of null = Err (here kind.WrongForm)
entries_of (boolean b) = Err (here kind.WrongForm)
entries_of (number n) = Err (here kind.WrongForm)
entries_of (string s) = Err (here kind.WrongForm)
entries_of (array ds) = Ok ds
entries_of (object ms) = Err (here kind.WrongForm)

abbrev pub list_of : {A : Type 0} → (Data → Result A Fault) → Data → Result (List A) Fault
list_of read d = do
  entries ← entries_of d
  each_of read 0 entries

-- ---- keys

abbrev pub is_one_of : List Key → List ℕ → Bool
is_one_of [] text = false
is_one_of (k ∷ ks) text = bytes_eq (key_text k) text || is_one_of ks text

abbrev pub unless_known : Bool → List ℕ → Result (Unit {0}) Fault → Result (Unit {0}) Fault
unless_known true text others = others
unless_known false text others = Err (within (step.Member text) (here kind.UnknownKey))

abbrev pub known : List Key → Members → Result (Unit {0}) Fault
known keys no_members = Ok tt
known keys (member text d ms) = unless_known (is_one_of keys text) text (known keys ms)

abbrev pub all_of : List Key → Members → Bool
all_of keys no_members = true
all_of keys (member text d ms) = is_one_of keys text && all_of keys ms

-- an object in which no other keys stand
unfoldable pub has_only : List Key → Data → Bool
has_only keys null = false
has_only keys (boolean b) = false
has_only keys (number n) = false
has_only keys (string s) = false
has_only keys (array ds) = false
has_only keys (object ms) = all_of keys ms

unfoldable pub only : List Key → Data → Result (Unit {0}) Fault
only keys null = Err (here kind.WrongForm)
only keys (boolean b) = Err (here kind.WrongForm)
only keys (number n) = Err (here kind.WrongForm)
only keys (string s) = Err (here kind.WrongForm)
only keys (array ds) = Err (here kind.WrongForm)
only keys (object ms) = known keys ms

-- ---- texts and numbers

unfoldable pub text_of : Data → Result (List ℕ) Fault
text_of null = Err (here kind.WrongForm)
text_of (boolean b) = Err (here kind.WrongForm)
text_of (number n) = Err (here kind.WrongForm)
text_of (string s) = Ok s
text_of (array ds) = Err (here kind.WrongForm)
text_of (object ms) = Err (here kind.WrongForm)

abbrev pub or_wrong : {A : Type 0} → Option A → Result A Fault
or_wrong (Some x) = Ok x
or_wrong None = Err (here kind.WrongForm)

unfoldable pub number_read : Data → Result ℕ Fault
number_read d = or_wrong (option_and_then as_u64 (as_number d))

unfoldable pub flag_of : Data → Result Bool Fault
flag_of d = or_wrong (as_bool d)

-- a test of what was read
abbrev pub or_wrong_at : {A : Type 0} → List Step → Option A → Result A Fault
or_wrong_at at (Some x) = Ok x
or_wrong_at at None = Err (record { kind = kind.WrongForm; at = at })

abbrev pub refined_of : {A B : Type 0} → (A → Option B) → (Data → Result A Fault) → Data → Result B Fault
refined_of test read d = read d >>= (λ x. or_wrong_at [] (test x))

-- a list that isn't empty
abbrev pub not_empty : {A : Type 0} → List A → Option (List A)
not_empty [] = None
not_empty (x ∷ xs) = Some (x ∷ xs)

-- a whole number below 256
abbrev pub below_256 : ℕ → Option ℕ
below_256 n = if nat_lt n 256 then Some n else None

unfoldable pub byte_of : Data → Result ℕ Fault
byte_of d = or_wrong (option_and_then below_256 (option_and_then as_u64 (as_number d)))

unfoldable pub integer_of : Data → Result ℤ Fault
integer_of d = or_wrong (option_and_then as_i64 (as_number d))
