-- What JSON values spell, as a table: a form says which value spells what, which faults a value has, in the order of reading, and what is
-- read of it, which is the first fault where there is one. That the three agree is proved once for all forms.
use Rattle.std.specs.Prelude.{◌≡◌, ℕ, ℤ, ◌+◌, List, [], ◌∷◌, ◌++◌, map, Bool, true, false, IsTrue, Option, Some, None, Result, Ok, Err, if◌then◌else◌}
use Rattle.std.specs.Str.{bytes_eq}
use Rattle.serde_json.specs.Data.{Data, null, boolean, number, string, array, object, Items, no_items, item, Members, no_members, member}
use Rattle.serde_json.specs.Find.{as_str}
use Rattle.bridge_form.specs.declared.keys.Key.{Key}
use Rattle.bridge_form.specs.declared.fault.InputKind.TheVariants as kind
use Rattle.bridge_form.specs.declared.fault.Fault.{Fault}
use Rattle.bridge_form.specs.declared.pointer.Step.{Step}
use Rattle.bridge_form.specs.declared.pointer.Step.TheVariants as step
use Rattle.bridge_form.specs.Reading.{◌>>=◌, not_null, here, within, inside, at_key, under, is_one_of, has_only, only, needed_of, optional_of, held_of, list_of, entries_of, text_of, number_read, flag_of, byte_of, integer_of, or_wrong_at, refined_of, not_empty}

-- which value spells what, the faults of a value, and what is read of it
pub record Form (A : Type 0) : Type 1 where
  pub Spells : Data → A → Type 0
  pub faults : Data → List Fault
  pub read : Data → Result A Fault

-- the parts of an object, in order: their keys, what holds of what they spell together, their faults, and what is done with what is read of them
pub record Parts (A : Type 0) : Type 1 where
  pub keys : List Key
  pub Spell : Data → (A → Type 0) → Type 0
  pub faults : Data → List Fault
  pub read : {R : Type 0} → Data → (A → Result R Fault) → Result R Fault

-- ---- texts and numbers

abbrev pub wrong : List Fault
wrong = here kind.WrongForm ∷ []

abbrev pub fault_of : {A : Type 0} → Result A Fault → List Fault
fault_of (Ok x) = []
fault_of (Err fault) = fault ∷ []

-- a value that is one word, number or text has one fault at most
abbrev pub single : {A : Type 0} → (Data → Result A Fault) → Form A
single read = record { Spells = λ d x. read d ≡ Ok x; faults = λ d. fault_of (read d); read = read }

-- ---- lists

abbrev pub Each : {A : Type 0} → (Data → A → Type 0) → Items → List A → Type 0
Each P no_items [] = Unit {0}
Each P no_items (x ∷ xs) = ⊥
Each P (item d ds) [] = ⊥
Each P (item d ds) (x ∷ xs) = P d x × Each P ds xs

abbrev pub each_faults : (Data → List Fault) → ℕ → Items → List Fault
each_faults faults n no_items = []
each_faults faults n (item d ds) = map (within (step.Index n)) (faults d) ++ each_faults faults (n + 1) ds

abbrev pub IsList : {A : Type 0} → (Data → A → Type 0) → Data → List A → Type 0
IsList P null xs = ⊥
IsList P (boolean b) xs = ⊥
IsList P (number n) xs = ⊥
IsList P (string s) xs = ⊥
IsList P (array ds) xs = Each P ds xs
IsList P (object ms) xs = ⊥

abbrev pub list_faults : (Data → List Fault) → Data → List Fault
list_faults faults null = wrong
list_faults faults (boolean b) = wrong
list_faults faults (number n) = wrong
list_faults faults (string s) = wrong
list_faults faults (array ds) = each_faults faults 0 ds
list_faults faults (object ms) = wrong

-- a list whose entries have the form
abbrev pub list : {A : Type 0} → Form A → Form (List A)
list form = record { Spells = IsList form.Spells; faults = list_faults form.faults; read = list_of form.read }

-- ---- objects

abbrev pub unknown_before : Bool → List ℕ → List Fault → List Fault
unknown_before true text others = others
unknown_before false text others = within (step.Member text) (here kind.UnknownKey) ∷ others

abbrev pub unknown_keys : List Key → Members → List Fault
unknown_keys keys no_members = []
unknown_keys keys (member text d ms) = unknown_before (is_one_of keys text) text (unknown_keys keys ms)

abbrev pub object_faults : {A : Type 0} → Parts A → Data → List Fault
object_faults parts null = wrong
object_faults parts (boolean b) = wrong
object_faults parts (number n) = wrong
object_faults parts (string s) = wrong
object_faults parts (array ds) = wrong
object_faults parts (object ms) = unknown_keys parts.keys ms ++ parts.faults (object ms)

-- an object with these parts and no other keys
abbrev pub object_with : {A : Type 0} → Parts A → Form A
object_with parts =
    record {
      Spells = λ d x. IsTrue (has_only parts.keys d) × parts.Spell d (λ y. y ≡ x);
      faults = object_faults parts;
      read = λ d. only parts.keys d >>= (λ keys. parts.read d (λ x. Ok x));
    }

-- what is made of the parts
abbrev pub made : {A : Type 0} → A → Parts A
made x = record { keys = []; Spell = λ d K. K x; faults = λ d. []; read = λ d next. next x }

infixl 5 ◌&◌
-- one more part
abbrev pub ◌&◌ : {A B : Type 0} → Parts (A → B) → Parts A → Parts B
first & second =
    record {
      keys = first.keys ++ second.keys;
      Spell = λ d K. first.Spell d (λ f. second.Spell d (λ x. K (f x)));
      faults = λ d. first.faults d ++ second.faults d;
      read = λ d next. first.read d (λ f. second.read d (λ x. next (f x)));
    }

abbrev pub inside_faults : Key → List Fault → List Fault
inside_faults key faults = map (within (at_key key)) faults

-- a value that has to stand under the key
abbrev pub NeededAt : {A : Type 0} → Form A → Option Data → (A → Type 0) → Type 0
NeededAt form None K = ⊥
NeededAt {A} form (Some d) K = (x : A) × form.Spells d x × K x

abbrev pub needed_faults : {A : Type 0} → Form A → Key → Option Data → List Fault
needed_faults form key None = here kind.MissingKey ∷ []
needed_faults form key (Some d) = inside_faults key (form.faults d)

abbrev pub needs : {A : Type 0} → Key → Form A → Parts A
needs key form =
    record {
      keys = key ∷ [];
      Spell = λ d K. NeededAt form (under key d) K;
      faults = λ d. needed_faults form key (under key d);
      read = λ d next. needed_of form.read key (under key d) >>= next;
    }

-- a value that may stand under the key
abbrev pub OptionalAt : {A : Type 0} → Form A → Option Data → (Option A → Type 0) → Type 0
OptionalAt form None K = K None
OptionalAt {A} form (Some d) K = (x : A) × form.Spells d x × K (Some x)

abbrev pub optional_faults : {A : Type 0} → Form A → Key → Option Data → List Fault
optional_faults form key None = []
optional_faults form key (Some d) = inside_faults key (form.faults d)

abbrev pub may_have : {A : Type 0} → Key → Form A → Parts (Option A)
may_have key form =
    record {
      keys = key ∷ [];
      Spell = λ d K. OptionalAt form (under key d) K;
      faults = λ d. optional_faults form key (under key d);
      read = λ d next. optional_of form.read key (under key d) >>= next;
    }

-- a value that may stand under the key, and what its absence stands for
abbrev pub HeldAt : {A : Type 0} → Form A → A → Option Data → (A → Type 0) → Type 0
HeldAt form absent None K = K absent
HeldAt {A} form absent (Some d) K = (x : A) × form.Spells d x × K x

abbrev pub may_be : {A : Type 0} → Key → Form A → A → Parts A
may_be key form absent =
    record {
      keys = key ∷ [];
      Spell = λ d K. HeldAt form absent (under key d) K;
      faults = λ d. optional_faults form key (under key d);
      read = λ d next. held_of absent form.read key (under key d) >>= next;
    }

-- the same, of a value whose form depends on the object
abbrev pub may_be_by : {A : Type 0} → Key → (Data → Form A) → A → Parts A
may_be_by key form absent =
    record {
      keys = key ∷ [];
      Spell = λ d K. HeldAt (form d) absent (under key d) K;
      faults = λ d. optional_faults (form d) key (under key d);
      read = λ d next. held_of absent (form d).read key (under key d) >>= next;
    }

-- a part that is read off the object itself, under no key
abbrev pub told : {A : Type 0} → (Data → A) → Parts A
told f = record { keys = []; Spell = λ d K. K (f d); faults = λ d. []; read = λ d next. next (f d) }

-- a key that is read elsewhere
abbrev pub skips : Key → Parts (Unit {0})
skips key = record { keys = key ∷ []; Spell = λ d K. K tt; faults = λ d. []; read = λ d next. next tt }

-- what is read of parts alone
abbrev pub read_alone : {A : Type 0} → Parts A → Data → Result A Fault
read_alone parts d = parts.read d (λ x. Ok x)

-- parts that are read together
abbrev pub grouped : {A : Type 0} → Parts A → Parts A
grouped parts = record { keys = parts.keys; Spell = parts.Spell; faults = parts.faults; read = λ d next. read_alone parts d >>= next }

-- ---- tests

-- what a test of what was read adds
abbrev pub test_faults : {A B : Type 0} → List Step → (A → Option B) → Result A Fault → List Fault
test_faults at test (Ok x) = fault_of (or_wrong_at at (test x))
test_faults at test (Err fault) = []

-- a value of the form for which the test has an answer, which is what is spelled
abbrev pub refined : {A B : Type 0} → (A → Option B) → Form A → Form B
refined {A} test form =
    record {
      Spells = λ d y. (x : A) × form.Spells d x × (test x ≡ Some y);
      faults = λ d. form.faults d ++ test_faults [] test (form.read d);
      read = refined_of test form.read;
    }

abbrev pub refined_at_of : {A B : Type 0} → Key → (A → Option B) → Parts A → Data → Result B Fault
refined_at_of key test parts d = parts.read d (λ x. or_wrong_at (at_key key ∷ []) (test x))

-- parts for which the test has an answer; its fault stands at the key
abbrev pub refined_at : {A B : Type 0} → Key → (A → Option B) → Parts A → Parts B
refined_at {A} {B} key test parts =
    record {
      keys = parts.keys;
      Spell = λ d K. parts.Spell d (λ x. (y : B) × (test x ≡ Some y) × K y);
      faults = λ d. parts.faults d ++ test_faults (at_key key ∷ []) test (parts.read d (λ x. Ok x));
      read = λ d next. refined_at_of key test parts d >>= next;
    }

-- ---- alternatives

-- one form for texts, and one for all other values
abbrev pub TextOr : Option (List ℕ) → Type 0 → Type 0 → Type 0
TextOr (Some s) P Q = P
TextOr None P Q = Q

abbrev pub text_or : {A : Type 0} → Option (List ℕ) → A → A → A
text_or (Some s) x y = x
text_or None x y = y

abbrev pub word_or : {A : Type 0} → Form A → Form A → Form A
word_or words other =
    record {
      Spells = λ d x. TextOr (as_str d) (words.Spells d x) (other.Spells d x);
      faults = λ d. text_or (as_str d) (words.faults d) (other.faults d);
      read = λ d. text_or (as_str d) (words.read d) (other.read d);
    }

-- what stands under the keys, of those under which something stands
abbrev pub add_live : Key → Option Data → List (Key × Data) → List (Key × Data)
add_live key None others = others
add_live key (Some d) others = (key, d) ∷ others

abbrev pub live : List Key → Data → List (Key × Data)
live [] d = []
live (key ∷ keys) d = add_live key (under key d) (live keys d)

abbrev pub IsSole : {A : Type 0} → (Key → Form A) → List (Key × Data) → A → Type 0
IsSole arm [] x = ⊥
IsSole arm (one ∷ []) x = (arm one.0).Spells one.1 x
IsSole arm (one ∷ other ∷ others) x = ⊥

abbrev pub sole_faults : {A : Type 0} → (Key → Form A) → List (Key × Data) → List Fault
sole_faults arm [] = wrong
sole_faults arm (one ∷ []) = inside_faults one.0 ((arm one.0).faults one.1)
sole_faults arm (one ∷ other ∷ others) = wrong

abbrev pub sole : List (Key × Data) → Result (Key × Data) Fault
sole [] = Err (here kind.WrongForm)
sole (one ∷ []) = Ok one
sole (one ∷ other ∷ others) = Err (here kind.WrongForm)

-- the one key of an object under which something stands, with what stands there
unfoldable pub sole_under : List Key → Data → Result (Key × Data) Fault
sole_under keys d = only keys d >>= (λ known. sole (live keys d))

abbrev pub one_of_faults : {A : Type 0} → List Key → (Key → Form A) → Data → List Fault
one_of_faults keys arm null = wrong
one_of_faults keys arm (boolean b) = wrong
one_of_faults keys arm (number n) = wrong
one_of_faults keys arm (string s) = wrong
one_of_faults keys arm (array ds) = wrong
one_of_faults keys arm (object ms) = unknown_keys keys ms ++ sole_faults arm (live keys (object ms))

-- an object in which something stands under exactly one of the keys, and what stands there has the form of that key
abbrev pub one_of : {A : Type 0} → List Key → (Key → Form A) → Form A
one_of keys arm =
    record {
      Spells = λ d x. IsTrue (has_only keys d) × IsSole arm (live keys d) x;
      faults = one_of_faults keys arm;
      read = λ d. sole_under keys d >>= (λ one. inside (at_key one.0) ((arm one.0).read one.1));
    }

-- what no value spells
abbrev pub never : {A : Type 0} → Form A
never = record { Spells = λ d x. ⊥; faults = λ d. wrong; read = λ d. Err (here kind.WrongForm) }

-- ---- forms of single values

abbrev pub text : Form (List ℕ)
text = single text_of

-- a number of a lifetime: whole, not negative and below 2 ^ 64
abbrev pub number_form : Form ℕ
number_form = single number_read

abbrev pub some_list : {A : Type 0} → Form A → Form (List A)
some_list form = refined not_empty (list form)

-- ---- more forms of single values

-- a boolean
abbrev pub flag : Form Bool
flag = single flag_of

-- what is made of a value of the form
abbrev pub mapped : {A B : Type 0} → (A → B) → Form A → Form B
mapped f form = refined (λ x. Some (f x)) form

-- one of the words, each of which stands for a value
abbrev pub find_word : {W : Type 0} → List (List ℕ × W) → List ℕ → Option W
find_word [] written = None
find_word (word ∷ words) written = if bytes_eq word.0 written then Some word.1 else find_word words written

abbrev pub one_word : {W : Type 0} → List (List ℕ × W) → Form W
one_word words = refined (find_word words) text

-- a whole number below 256
abbrev pub byte : Form ℕ
byte = single byte_of

-- a whole number of 64 bits with a sign
abbrev pub integer : Form ℤ
integer = single integer_of

-- ---- lists of two

abbrev pub two_entries : Items → Result (Data × Data) Fault
two_entries no_items = Err (here kind.WrongForm)
two_entries (item d no_items) = Err (here kind.WrongForm)
two_entries (item d (item e no_items)) = Ok (d, e)
two_entries (item d (item e (item f ds))) = Err (here kind.WrongForm)

abbrev pub pair_read : {A : Type 0} → (Data → Result A Fault) → Data × Data → Result (A × A) Fault
pair_read read both = inside (step.Index 0) (read both.0) >>= (λ x. inside (step.Index 1) (read both.1) >>= (λ y. Ok (x, y)))

abbrev pub two_in : {A : Type 0} → (Data → Result A Fault) → Items → Result (A × A) Fault
two_in read entries = two_entries entries >>= pair_read read

abbrev pub two_of : {A : Type 0} → (Data → Result A Fault) → Data → Result (A × A) Fault
two_of read d = entries_of d >>= two_in read

abbrev pub IsTwo : {A : Type 0} → (Data → A → Type 0) → Data → A × A → Type 0
IsTwo P d pair = IsList P d (pair.0 ∷ pair.1 ∷ [])

abbrev pub two_faults : (Data → List Fault) → Items → List Fault
two_faults faults no_items = wrong
two_faults faults (item d no_items) = wrong
two_faults faults (item d (item e no_items)) = each_faults faults 0 (item d (item e no_items))
two_faults faults (item d (item e (item f ds))) = wrong

abbrev pub pair_faults : (Data → List Fault) → Data → List Fault
pair_faults faults null = wrong
pair_faults faults (boolean b) = wrong
pair_faults faults (number n) = wrong
pair_faults faults (string s) = wrong
pair_faults faults (array ds) = two_faults faults ds
pair_faults faults (object ms) = wrong

-- a list of exactly two; another length is told before any fault of an entry
abbrev pub two : {A : Type 0} → Form A → Form (A × A)
two form = record { Spells = IsTwo form.Spells; faults = pair_faults form.faults; read = two_of form.read }

-- ---- objects whose form depends on what stands under a key

abbrev pub ChosenAt : {K A : Type 0} → Form K → (K → Form A) → Data → Option Data → A → Type 0
ChosenAt kinds arm d None x = ⊥
ChosenAt {K} kinds arm d (Some written) x = (k : K) × kinds.Spells written k × (arm k).Spells d x

abbrev pub arm_faults : {K A : Type 0} → (K → Form A) → Data → Result K Fault → List Fault
arm_faults arm d (Ok k) = (arm k).faults d
arm_faults arm d (Err fault) = []

abbrev pub chosen_faults : {K A : Type 0} → Key → Form K → (K → Form A) → Data → List Fault
chosen_faults key kinds arm null = wrong
chosen_faults key kinds arm (boolean b) = wrong
chosen_faults key kinds arm (number n) = wrong
chosen_faults key kinds arm (string s) = wrong
chosen_faults key kinds arm (array ds) = wrong
chosen_faults key kinds arm (object ms) = needed_faults kinds key (under key (object ms)) ++ arm_faults arm (object ms) (needed_of kinds.read key (under key (object ms)))

unfoldable pub object_of : Data → Result (Unit {0}) Fault
object_of null = Err (here kind.WrongForm)
object_of (boolean b) = Err (here kind.WrongForm)
object_of (number n) = Err (here kind.WrongForm)
object_of (string s) = Err (here kind.WrongForm)
object_of (array ds) = Err (here kind.WrongForm)
object_of (object ms) = Ok tt

-- an object whose form depends on what stands under the key, which is read before anything else
abbrev pub chosen_by : {K A : Type 0} → Key → Form K → (K → Form A) → Form A
chosen_by key kinds arm =
    record {
      Spells = λ d x. ChosenAt kinds arm d (under key d) x;
      faults = chosen_faults key kinds arm;
      read = λ d. object_of d >>= (λ is. needed_of kinds.read key (under key d) >>= (λ k. (arm k).read d));
    }

-- ---- objects with any keys

-- what is read of one member; null stands for none
abbrev pub member_of : {A : Type 0} → (Data → Result A Fault) → List ℕ → Option Data → Result (List (List ℕ × A)) Fault
member_of read name None = Ok []
member_of read name (Some d) = inside (step.Member name) (read d) >>= (λ x. Ok ((name, x) ∷ []))

abbrev pub members_of : {A : Type 0} → (Data → Result A Fault) → Members → Result (List (List ℕ × A)) Fault
members_of read no_members = Ok []
members_of read (member name d ms) = member_of read name (not_null d) >>= (λ first. members_of read ms >>= (λ others. Ok (first ++ others)))

unfoldable pub members_in : Data → Result Members Fault
members_in null = Err (here kind.WrongForm)
members_in (boolean b) = Err (here kind.WrongForm)
members_in (number n) = Err (here kind.WrongForm)
members_in (string s) = Err (here kind.WrongForm)
members_in (array ds) = Err (here kind.WrongForm)
members_in (object ms) = Ok ms

-- a member that is null is no entry, and each other one is an entry with its key
abbrev pub EntryIs : {A : Type 0} → (Data → A → Type 0) → List ℕ → Option Data → (List (List ℕ × A) → Type 0) → List (List ℕ × A) → Type 0
EntryIs P name None Others xs = Others xs
EntryIs P name (Some d) Others [] = ⊥
EntryIs P name (Some d) Others (x ∷ xs) = (x.0 ≡ name) × P d x.1 × Others xs

abbrev pub EachEntry : {A : Type 0} → (Data → A → Type 0) → Members → List (List ℕ × A) → Type 0
EachEntry P no_members [] = Unit {0}
EachEntry P no_members (x ∷ xs) = ⊥
EachEntry P (member name d ms) xs = EntryIs P name (not_null d) (EachEntry P ms) xs

abbrev pub IsDictionary : {A : Type 0} → (Data → A → Type 0) → Data → List (List ℕ × A) → Type 0
IsDictionary P null xs = ⊥
IsDictionary P (boolean b) xs = ⊥
IsDictionary P (number n) xs = ⊥
IsDictionary P (string s) xs = ⊥
IsDictionary P (array ds) xs = ⊥
IsDictionary P (object ms) xs = EachEntry P ms xs

abbrev pub member_faults : (Data → List Fault) → List ℕ → Option Data → List Fault
member_faults faults name None = []
member_faults faults name (Some d) = map (within (step.Member name)) (faults d)

abbrev pub members_faults : (Data → List Fault) → Members → List Fault
members_faults faults no_members = []
members_faults faults (member name d ms) = member_faults faults name (not_null d) ++ members_faults faults ms

abbrev pub dictionary_faults : (Data → List Fault) → Data → List Fault
dictionary_faults faults null = wrong
dictionary_faults faults (boolean b) = wrong
dictionary_faults faults (number n) = wrong
dictionary_faults faults (string s) = wrong
dictionary_faults faults (array ds) = wrong
dictionary_faults faults (object ms) = members_faults faults ms

-- an object with any keys, each of whose values has the form or is null: the keys in order, each with its value
abbrev pub dictionary : {A : Type 0} → Form A → Form (List (List ℕ × A))
dictionary form =
    record {
      Spells = IsDictionary form.Spells;
      faults = dictionary_faults form.faults;
      read = λ d. members_in d >>= (λ ms. members_of form.read ms);
    }
