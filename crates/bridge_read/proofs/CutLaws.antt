-- Types, conditions and modules may nest as deep as the text does: on a value that nests no deeper, more levels change nothing.
use Rattle.std.proofs.Common.{◌≡◌, ℕ, zero, suc, ◌+◌, ◌*◌, ◌<◌, ◌≤◌, max, List, [], ◌∷◌, ◌++◌, false, IsTrue, Option, Some, None, option_and_then, Ordering, Less, Equal, Greater, Result, Ok, nat_cmp, refl, sym, ap, subst, ◌∙◌, arith}
use mathlib.Core.Path.{fun_ext}
use Rattle.std.specs.Cmp.Lexicographic.{slice_cmp}
use Rattle.std.specs.Ordering.{match_ordering}
use Rattle.serde_json.specs.Data.{Data, null, boolean, number, string, array, object, Items, no_items, item, Members, no_members, member, depth, items_depth, members_depth}
use Rattle.serde_json.specs.Find.{as_str, get_member}
use Rattle.bridge_decl.specs.declared.attrs.DiplomatBackendAttrCfg.{DiplomatBackendAttrCfg}
use Rattle.bridge_decl.specs.declared.attrs.DiplomatBackendAttrCfg.TheVariants as cfg
use Rattle.bridge_decl.specs.declared.types.StdlibOrDiplomat.TheVariants.{Stdlib, Diplomat}
use Rattle.bridge_decl.specs.declared.types.TypeName.{TypeName}
use Rattle.bridge_decl.specs.declared.types.TypeName.TheVariants as type
use Rattle.bridge_form.specs.declared.fault.Fault.{Fault}
use Rattle.bridge_form.specs.declared.keys.Key.{Key}
use Rattle.bridge_form.specs.declared.keys.Key.TheVariants as key
use Rattle.bridge_read.specs.Agree.{SaySame, CutsNothing}
use Rattle.bridge_form.specs.Form.{Form, Parts, Each, each_faults, list, object_faults, object_with, unknown_keys, made, ◌&◌, needs, NeededAt, needed_faults, may_have, OptionalAt, may_be, may_be_by, told, grouped, HeldAt, optional_faults, refined, mapped, word_or, TextOr, text_or, one_of, one_of_faults, never, add_live, live, IsSole, sole_faults, inside_faults, text, flag, two}
use Rattle.bridge_form.proofs.ChoiceLaws.{one_of_is, sole_read}
use Rattle.bridge_form.specs.Keys.{key_text}
use Rattle.bridge_form.specs.Reading.{◌>>=◌, at_key, each_of, entries_of, held_of, inside, needed_of, not_null, only, optional_of, or_wrong_at, under, has_only}
use Rattle.bridge_read_parts.specs.forms.Attrs.{condition_keys, condition_under, condition_within, condition_word, pair_condition}
use Rattle.bridge_read_parts.specs.forms.Lifetimes.{lifetime, path}
use Rattle.bridge_read.specs.forms.Modules.{any_text, contents, in_a_row, named_module, module_parts, module_within, nested_in, path_in}
use Rattle.bridge_read_parts.specs.forms.Types.{borrow, callback_of, custom_slice_of, option_type_of, primitive_slice, reference_type_of, result_of, str_list, str_slice, type_keys, type_under, type_within, type_word, writer}
use Rattle.bridge_form.proofs.FormLaws.{LawfulParts}
use Rattle.bridge_form.proofs.PartLaws.{told_lawful, grouped_lawful}
use Rattle.bridge_read.proofs.forms.Modules.{contents_lawful}
use Rattle.bridge_read_parts.proofs.forms.Types.{borrow_lawful}

-- ---- how deep what stands under a key nests

at_most : (o : Ordering) (r : Option Data) (d e : Data) (n : ℕ) → ((e : Data) → r ≡ Some e → depth e ≤ n) → depth d ≤ n → match_ordering o r (Some d) r ≡ Some e → depth e ≤ n
at_most Less r d e n others here is = others e is
at_most Equal r d e n others here is = let same : d ≡ e = cc in subst (λ x. depth x ≤ n) same here
at_most Greater r d e n others here is = others e is

member_depth : (k : List ℕ) (ms : Members) (e : Data) → get_member k ms ≡ Some e → depth e ≤ members_depth ms
member_depth k no_members e is = absurd cc
member_depth k (member l d ms) e is =
    at_most (slice_cmp nat_cmp k l) (get_member k ms) d e (max (depth d) (members_depth ms))
    (λ x at. let deep = member_depth k ms x at in omega (arith, deep)) (omega arith) is

not_null_depth : (o : Option Data) (e : Data) (n : ℕ) → ((x : Data) → o ≡ Some x → depth x ≤ n) → option_and_then not_null o ≡ Some e → depth e ≤ n
not_null_depth None e n most is = absurd cc
not_null_depth (Some null) e n most is = absurd cc
not_null_depth (Some (boolean b)) e n most is = most e is
not_null_depth (Some (number x)) e n most is = most e is
not_null_depth (Some (string s)) e n most is = most e is
not_null_depth (Some (array ds)) e n most is = most e is
not_null_depth (Some (object ms)) e n most is = most e is

-- what stands under a key nests less deep than its object
pub under_depth : (k : Key) (d e : Data) → under k d ≡ Some e → depth e < depth d
unfolding under
under_depth k null e is = absurd cc
under_depth k (boolean b) e is = absurd cc
under_depth k (number n) e is = absurd cc
under_depth k (string s) e is = absurd cc
under_depth k (array ds) e is = absurd cc
under_depth k (object ms) e is =
    let most = not_null_depth (get_member (key_text k) ms) e (members_depth ms) (member_depth (key_text k) ms) is in omega (arith, most)

-- ---- forms

pub itself : {A : Type 0} (f : Form A) (d : Data) → SaySame f f d
itself f d = record { read = refl; faults = refl; there = λ x h. h; back = λ x h. h }

pub and_then : {A : Type 0} (f g h : Form A) (d : Data) → SaySame f g d → SaySame g h d → SaySame f h d
and_then f g h d s t = record { read = s.read ∙ t.read; faults = s.faults ∙ t.faults; there = λ x k. t.there x (s.there x k); back = λ x k. s.back x (t.back x k) }

pub refined_same : {A B : Type 0} (test : A → Option B) (f g : Form A) (d : Data) → SaySame f g d → SaySame (refined test f) (refined test g) d
refined_same test f g d s =
    record {
      read = ap (λ r. r >>= (λ x. or_wrong_at [] (test x))) s.read;
      faults = rw (s.faults, s.read) refl;
      there = λ y h. (h.0, s.there h.0 h.1, h.2);
      back = λ y h. (h.0, s.back h.0 h.1, h.2);
    }

text_there : (o : Option (List ℕ)) (P Q R : Type 0) → (Q → R) → TextOr o P Q → TextOr o P R
text_there (Some s) P Q R more h = h
text_there None P Q R more h = more h

pub word_or_same : {A : Type 0} (words f g : Form A) (d : Data) → SaySame f g d → SaySame (word_or words f) (word_or words g) d
word_or_same words f g d s =
    record {
      read = ap (text_or (as_str d) (words.read d)) s.read;
      faults = ap (text_or (as_str d) (words.faults d)) s.faults;
      there = λ x h. text_there (as_str d) (words.Spells d x) (f.Spells d x) (g.Spells d x) (s.there x) h;
      back = λ x h. text_there (as_str d) (words.Spells d x) (g.Spells d x) (f.Spells d x) (s.back x) h;
    }

-- ---- lists

-- the forms say the same of all values that nest so deep
abbrev pub AgreeTo : {A : Type 0} → ℕ → Form A → Form A → Type 0
AgreeTo n f g = (d : Data) → depth d ≤ n → SaySame f g d

module _ {A : Type 0} (f g : Form A) (n : ℕ) (agree : AgreeTo n f g) where
  each_read : (i : ℕ) (ds : Items) → items_depth ds ≤ n → each_of f.read i ds ≡ each_of g.read i ds
  each_read i no_items le = refl
  each_read i (item d ds) le = rw ((agree d (omega (arith, le))).read, each_read (i + 1) ds (omega (arith, le))) refl

  each_same : (i : ℕ) (ds : Items) → items_depth ds ≤ n → each_faults f.faults i ds ≡ each_faults g.faults i ds
  each_same i no_items le = refl
  each_same i (item d ds) le = rw ((agree d (omega (arith, le))).faults, each_same (i + 1) ds (omega (arith, le))) refl

  each_there : (ds : Items) (xs : List A) → items_depth ds ≤ n → Each f.Spells ds xs → Each g.Spells ds xs
  each_there no_items [] le h = h
  each_there no_items (x ∷ xs) le h = h
  each_there (item d ds) [] le h = h
  each_there (item d ds) (x ∷ xs) le h = ((agree d (omega (arith, le))).there x h.0, each_there ds xs (omega (arith, le)) h.1)

  each_back : (ds : Items) (xs : List A) → items_depth ds ≤ n → Each g.Spells ds xs → Each f.Spells ds xs
  each_back no_items [] le h = h
  each_back no_items (x ∷ xs) le h = h
  each_back (item d ds) [] le h = h
  each_back (item d ds) (x ∷ xs) le h = ((agree d (omega (arith, le))).back x h.0, each_back ds xs (omega (arith, le)) h.1)

-- lists whose entries' forms say the same of what nests less deep than the list
pub list_same : {A : Type 0} (f g : Form A) (d : Data) → ((x : Data) → depth x < depth d → SaySame f g x) → SaySame (list f) (list g) d
unfolding entries_of
list_same f g null less = record { read = refl; faults = refl; there = λ x h. h; back = λ x h. h }
list_same f g (boolean b) less = record { read = refl; faults = refl; there = λ x h. h; back = λ x h. h }
list_same f g (number x) less = record { read = refl; faults = refl; there = λ x h. h; back = λ x h. h }
list_same f g (string s) less = record { read = refl; faults = refl; there = λ x h. h; back = λ x h. h }
list_same f g (array ds) less =
    let few : items_depth ds ≤ items_depth ds = omega arith in
    let agree = λ (x : Data) (le : depth x ≤ items_depth ds). less x (omega (arith, le)) in
    record { read = each_read f g (items_depth ds) agree 0 ds few; faults = each_same f g (items_depth ds) agree 0 ds few; there = λ xs h. each_there f g (items_depth ds) agree ds xs few h; back = λ xs h. each_back f g (items_depth ds) agree ds xs few h }
list_same f g (object ms) less = record { read = refl; faults = refl; there = λ x h. h; back = λ x h. h }

-- ---- parts of objects

pub record SamePartsAt {A : Type 0} (p q : Parts A) (d : Data) : Type 1 where
  pub keys : p.keys ≡ q.keys
  pub read : {R : Type 0} (next : A → Result R Fault) → p.read d next ≡ q.read d next
  pub faults : p.faults d ≡ q.faults d
  pub there : (K L : A → Type 0) → ((x : A) → K x → L x) → p.Spell d K → q.Spell d L
  pub back : (K L : A → Type 0) → ((x : A) → K x → L x) → q.Spell d K → p.Spell d L

pub parts_itself : {A : Type 0} (p : Parts A) → LawfulParts p → (d : Data) → SamePartsAt p p d
parts_itself p lawful d = record { keys = refl; read = λ next. refl; faults = refl; there = lawful.grows d; back = lawful.grows d }

pub made_same : {A : Type 0} (x : A) (d : Data) → SamePartsAt (made x) (made x) d
made_same x d = record { keys = refl; read = λ next. refl; faults = refl; there = λ K L more h. more x h; back = λ K L more h. more x h }

pub both_same : {A B : Type 0} (p q : Parts (A → B)) (r s : Parts A) (d : Data) → SamePartsAt p q d → SamePartsAt r s d → SamePartsAt (p & r) (q & s) d
both_same p q r s d first second =
    record {
      keys = rw (first.keys, second.keys) refl;
      read = λ next. ap (λ k. p.read d k) (fun_ext (λ f. second.read (λ x. next (f x)))) ∙ first.read (λ f. s.read d (λ x. next (f x)));
      faults = rw (first.faults, second.faults) refl;
      there = λ K L more h. first.there (λ f. r.Spell d (λ x. K (f x))) (λ f. s.Spell d (λ x. L (f x))) (λ f k. second.there (λ x. K (f x)) (λ x. L (f x)) (λ x m. more (f x) m) k) h;
      back = λ K L more h. first.back (λ f. s.Spell d (λ x. K (f x))) (λ f. r.Spell d (λ x. L (f x))) (λ f k. second.back (λ x. K (f x)) (λ x. L (f x)) (λ x m. more (f x) m) k) h;
    }

module _ {A : Type 0} (k : Key) (f g : Form A) where
  -- the forms say the same of what stands under the key, if anything does
  abbrev pub SameUnder : Option Data → Type 0
  SameUnder o = (e : Data) → o ≡ Some e → SaySame f g e

  needed_read : (o : Option Data) → SameUnder o → needed_of f.read k o ≡ needed_of g.read k o
  needed_read None same = refl
  needed_read (Some e) same = ap (inside (at_key k)) (same e refl).read

  needed_same : (o : Option Data) → SameUnder o → needed_faults f k o ≡ needed_faults g k o
  needed_same None same = refl
  needed_same (Some e) same = ap (inside_faults k) (same e refl).faults

  needed_there : (o : Option Data) → SameUnder o → (K L : A → Type 0) → ((x : A) → K x → L x) → NeededAt f o K → NeededAt g o L
  needed_there None same K L more h = h
  needed_there (Some e) same K L more h = (h.0, (same e refl).there h.0 h.1, more h.0 h.2)

  needed_back : (o : Option Data) → SameUnder o → (K L : A → Type 0) → ((x : A) → K x → L x) → NeededAt g o K → NeededAt f o L
  needed_back None same K L more h = h
  needed_back (Some e) same K L more h = (h.0, (same e refl).back h.0 h.1, more h.0 h.2)

  pub needs_same : (d : Data) → SameUnder (under k d) → SamePartsAt (needs k f) (needs k g) d
  needs_same d same =
      record { keys = refl; read = λ next. ap (λ r. r >>= next) (needed_read (under k d) same); faults = needed_same (under k d) same; there = needed_there (under k d) same; back = needed_back (under k d) same }

  optional_same : (o : Option Data) → SameUnder o → optional_faults f k o ≡ optional_faults g k o
  optional_same None same = refl
  optional_same (Some e) same = ap (inside_faults k) (same e refl).faults

  optional_read : (o : Option Data) → SameUnder o → optional_of f.read k o ≡ optional_of g.read k o
  optional_read None same = refl
  optional_read (Some e) same = rw (same e refl).read refl

  optional_there : (o : Option Data) → SameUnder o → (K L : Option A → Type 0) → ((x : Option A) → K x → L x) → OptionalAt f o K → OptionalAt g o L
  optional_there None same K L more h = more None h
  optional_there (Some e) same K L more h = (h.0, (same e refl).there h.0 h.1, more (Some h.0) h.2)

  optional_back : (o : Option Data) → SameUnder o → (K L : Option A → Type 0) → ((x : Option A) → K x → L x) → OptionalAt g o K → OptionalAt f o L
  optional_back None same K L more h = more None h
  optional_back (Some e) same K L more h = (h.0, (same e refl).back h.0 h.1, more (Some h.0) h.2)

  pub may_have_same : (d : Data) → SameUnder (under k d) → SamePartsAt (may_have k f) (may_have k g) d
  may_have_same d same =
      record { keys = refl; read = λ next. ap (λ r. r >>= next) (optional_read (under k d) same); faults = optional_same (under k d) same; there = optional_there (under k d) same; back = optional_back (under k d) same }

  module _ (absent : A) where
    held_read : (o : Option Data) → SameUnder o → held_of absent f.read k o ≡ held_of absent g.read k o
    held_read None same = refl
    held_read (Some e) same = ap (inside (at_key k)) (same e refl).read

    held_there : (o : Option Data) → SameUnder o → (K L : A → Type 0) → ((x : A) → K x → L x) → HeldAt f absent o K → HeldAt g absent o L
    held_there None same K L more h = more absent h
    held_there (Some e) same K L more h = (h.0, (same e refl).there h.0 h.1, more h.0 h.2)

    held_back : (o : Option Data) → SameUnder o → (K L : A → Type 0) → ((x : A) → K x → L x) → HeldAt g absent o K → HeldAt f absent o L
    held_back None same K L more h = more absent h
    held_back (Some e) same K L more h = (h.0, (same e refl).back h.0 h.1, more h.0 h.2)

    pub may_be_same : (d : Data) → SameUnder (under k d) → SamePartsAt (may_be k f absent) (may_be k g absent) d
    may_be_same d same =
        record { keys = refl; read = λ next. ap (λ r. r >>= next) (held_read (under k d) same); faults = optional_same (under k d) same; there = held_there (under k d) same; back = held_back (under k d) same }

object_faults_same : {A : Type 0} (p q : Parts A) (d : Data) → SamePartsAt p q d → object_faults p d ≡ object_faults q d
object_faults_same p q null s = refl
object_faults_same p q (boolean b) s = refl
object_faults_same p q (number n) s = refl
object_faults_same p q (string t) s = refl
object_faults_same p q (array ds) s = refl
object_faults_same p q (object ms) s = rw (s.keys, s.faults) refl

pub object_same : {A : Type 0} (p q : Parts A) (d : Data) → SamePartsAt p q d → SaySame (object_with p) (object_with q) d
object_same p q d s =
    record {
      read = ap (λ ks. only ks d >>= (λ known. p.read d (λ x. Ok x))) s.keys ∙ ap (λ r. only q.keys d >>= (λ known. r)) (s.read (λ x. Ok x));
      faults = object_faults_same p q d s;
      there = λ x h. (subst (λ ks. IsTrue (has_only ks d)) s.keys h.0, s.there (λ y. y ≡ x) (λ y. y ≡ x) (λ y e. e) h.1);
      back = λ x h. (subst (λ ks. IsTrue (has_only ks d)) (sym s.keys) h.0, s.back (λ y. y ≡ x) (λ y. y ≡ x) (λ y e. e) h.1);
    }

-- a value whose form depends on the object
pub may_be_by_same : {A : Type 0} (k : Key) (f g : Data → Form A) (absent : A) (d : Data) → ((e : Data) → under k d ≡ Some e → SaySame (f d) (g d) e) → SamePartsAt (may_be_by k f absent) (may_be_by k g absent) d
may_be_by_same k f g absent d same =
    let s = may_be_same k (f d) (g d) absent d same in
    record { keys = refl; read = s.read; faults = s.faults; there = s.there; back = s.back }

-- ---- objects with one key

module _ {A : Type 0} (keys : List Key) (arm other : Key → Form A) where
  abbrev pub SameEach : List (Key × Data) → Type 0
  SameEach [] = Unit {0}
  SameEach (one ∷ more) = SaySame (arm one.0) (other one.0) one.1 × SameEach more

  module _ (d : Data) (same : (k : Key) (e : Data) → under k d ≡ Some e → SaySame (arm k) (other k) e) where
    add_same : (k : Key) (o : Option Data) (more : List (Key × Data)) → under k d ≡ o → SameEach more → SameEach (add_live k o more)
    add_same k None more is h = h
    add_same k (Some e) more is h = (same k e is, h)

    live_same : (ks : List Key) → SameEach (live ks d)
    live_same [] = tt
    live_same (k ∷ ks) = add_same k (under k d) (live ks d) refl (live_same ks)

  sole_read_same : (l : List (Key × Data)) → SameEach l → sole_read keys arm l ≡ sole_read keys other l
  sole_read_same [] h = refl
  sole_read_same (one ∷ []) h = ap (inside (at_key one.0)) h.0.read
  sole_read_same (one ∷ two ∷ more) h = refl

  sole_same : (l : List (Key × Data)) → SameEach l → sole_faults arm l ≡ sole_faults other l
  sole_same [] h = refl
  sole_same (one ∷ []) h = ap (inside_faults one.0) h.0.faults
  sole_same (one ∷ two ∷ more) h = refl

  sole_there : (l : List (Key × Data)) (x : A) → SameEach l → IsSole arm l x → IsSole other l x
  sole_there [] x h s = s
  sole_there (one ∷ []) x h s = h.0.there x s
  sole_there (one ∷ two ∷ more) x h s = s

  sole_back : (l : List (Key × Data)) (x : A) → SameEach l → IsSole other l x → IsSole arm l x
  sole_back [] x h s = s
  sole_back (one ∷ []) x h s = h.0.back x s
  sole_back (one ∷ two ∷ more) x h s = s

  one_faults_same : (d : Data) → SameEach (live keys d) → one_of_faults keys arm d ≡ one_of_faults keys other d
  one_faults_same null h = refl
  one_faults_same (boolean b) h = refl
  one_faults_same (number n) h = refl
  one_faults_same (string s) h = refl
  one_faults_same (array ds) h = refl
  one_faults_same (object ms) h = ap (λ faults. unknown_keys keys ms ++ faults) (sole_same (live keys (object ms)) h)

  pub one_of_same : (d : Data) → ((k : Key) (e : Data) → under k d ≡ Some e → SaySame (arm k) (other k) e) → SaySame (one_of keys arm) (one_of keys other) d
  one_of_same d same =
      let all = live_same d same keys in
      record {
        read = one_of_is keys arm d ∙ ap (λ r. only keys d >>= (λ known. r)) (sole_read_same (live keys d) all) ∙ sym (one_of_is keys other d);
        faults = one_faults_same d all;
        there = λ x h. (h.0, sole_there (live keys d) x all h.1);
        back = λ x h. (h.0, sole_back (live keys d) x all h.1);
      }

-- ---- types

module _ (f g : Form TypeName) (n : ℕ) (agree : AgreeTo n f g) where
  below : (d : Data) (k : Key) → depth d ≤ n → SameUnder k f g (under k d)
  below d k le e is = let deep = under_depth k d e is in agree e (omega (arith, le, deep))

  same_object : {A : Type 0} (p q : Parts A) (d : Data) → SamePartsAt p q d → SaySame (object_with p) (object_with q) d
  same_object p q d s = object_same p q d s

  fixed_needs : {A : Type 0} (k : Key) (form : Form A) (d : Data) → SamePartsAt (needs k form) (needs k form) d
  fixed_needs k form d = needs_same k form form d (λ e is. itself form e)

  fixed_be : {A : Type 0} (k : Key) (form : Form A) (absent : A) (d : Data) → SamePartsAt (may_be k form absent) (may_be k form absent) d
  fixed_be k form absent d = may_be_same k form form absent d (λ e is. itself form e)

  type_under_same : (k : Key) (d : Data) → depth d ≤ n → SaySame (type_under f k) (type_under g k) d
  type_under_same key.Named d le = itself (mapped type.Named path) d
  type_under_same key.Itself d le = itself (mapped type.SelfType path) d
  type_under_same key.ImplTrait d le = itself (mapped type.ImplTrait path) d
  type_under_same key.Ref d le =
      object_same (made reference_type_of & needs key.Lifetime lifetime & may_be key.Mutable flag false & needs key.To f) (made reference_type_of & needs key.Lifetime lifetime & may_be key.Mutable flag false & needs key.To g) d
      (both_same _ _ _ _ d (both_same _ _ _ _ d (both_same _ _ _ _ d (made_same reference_type_of d) (fixed_needs key.Lifetime lifetime d)) (fixed_be key.Mutable flag false d)) (needs_same key.To f g d (below d key.To le)))
  type_under_same key.Boxed d le = refined_same (λ x. Some (type.Box x)) f g d (agree d le)
  type_under_same key.StdOption d le = refined_same (λ x. Some (option_type_of Stdlib x)) f g d (agree d le)
  type_under_same key.DiplomatOption d le = refined_same (λ x. Some (option_type_of Diplomat x)) f g d (agree d le)
  type_under_same key.StdResult d le =
      object_same (made (result_of Stdlib) & needs key.OkType f & needs key.ErrType f) (made (result_of Stdlib) & needs key.OkType g & needs key.ErrType g) d
      (both_same _ _ _ _ d (both_same _ _ _ _ d (made_same (result_of Stdlib) d) (needs_same key.OkType f g d (below d key.OkType le))) (needs_same key.ErrType f g d (below d key.ErrType le)))
  type_under_same key.DiplomatResult d le =
      object_same (made (result_of Diplomat) & needs key.OkType f & needs key.ErrType f) (made (result_of Diplomat) & needs key.OkType g & needs key.ErrType g) d
      (both_same _ _ _ _ d (both_same _ _ _ _ d (made_same (result_of Diplomat) d) (needs_same key.OkType f g d (below d key.OkType le))) (needs_same key.ErrType f g d (below d key.ErrType le)))
  type_under_same key.Write d le = itself (mapped type.Write writer) d
  type_under_same key.Str d le = itself str_slice d
  type_under_same key.Strs d le = itself str_list d
  type_under_same key.Slice d le = itself primitive_slice d
  type_under_same key.CustomSlice d le =
      object_same (made custom_slice_of & borrow & needs key.Of f & may_be key.Std flag false) (made custom_slice_of & borrow & needs key.Of g & may_be key.Std flag false) d
      (both_same _ _ _ _ d (both_same _ _ _ _ d (both_same _ _ _ _ d (made_same custom_slice_of d) (parts_itself borrow borrow_lawful d)) (needs_same key.Of f g d (below d key.Of le))) (fixed_be key.Std flag false d))
  type_under_same key.Callback d le =
      object_same (made callback_of & may_be key.Params (list f) [] & may_have key.Ret f & may_be key.Mutable flag false) (made callback_of & may_be key.Params (list g) [] & may_have key.Ret g & may_be key.Mutable flag false) d
      (both_same _ _ _ _ d (both_same _ _ _ _ d (both_same _ _ _ _ d (made_same callback_of d)
      (may_be_same key.Params (list f) (list g) [] d (λ e is. let deep = under_depth key.Params d e is in list_same f g e (λ x lt. agree x (omega (arith, le, deep, lt))))))
      (may_have_same key.Ret f g d (below d key.Ret le))) (fixed_be key.Mutable flag false d))
  type_under_same other d le = itself never d

-- one level more changes nothing in what nests less deep
type_same : (l : ℕ) (d : Data) → depth d < l → SaySame (type_within l) (type_within (suc l)) d
type_same zero d lt = absurd (omega (arith, lt))
type_same (suc l) d lt =
    word_or_same type_word (one_of type_keys (type_under (type_within l))) (one_of type_keys (type_under (type_within (suc l)))) d
    (one_of_same type_keys (type_under (type_within l)) (type_under (type_within (suc l))) d
    (λ k e is. let deep = under_depth k d e is in
    type_under_same (type_within l) (type_within (suc l)) (depth e) (λ x le. type_same l x (omega (arith, lt, deep, le))) k e (omega arith)))

-- ---- conditions

module _ (f g : Form DiplomatBackendAttrCfg) (n : ℕ) (agree : AgreeTo n f g) where
  condition_under_same : (k : Key) (d : Data) → depth d ≤ n → SaySame (condition_under f k) (condition_under g k) d
  condition_under_same key.Backend d le = itself (mapped cfg.BackendName text) d
  condition_under_same key.Pair d le = itself (mapped pair_condition (two text)) d
  condition_under_same key.Not d le = refined_same (λ x. Some (cfg.Not x)) f g d (agree d le)
  condition_under_same key.Any d le = refined_same (λ x. Some (cfg.Any x)) (list f) (list g) d (list_same f g d (λ x lt. agree x (omega (arith, le, lt))))
  condition_under_same key.All d le = refined_same (λ x. Some (cfg.All x)) (list f) (list g) d (list_same f g d (λ x lt. agree x (omega (arith, le, lt))))
  condition_under_same other d le = itself never d

condition_same : (l : ℕ) (d : Data) → depth d < l → SaySame (condition_within l) (condition_within (suc l)) d
condition_same zero d lt = absurd (omega (arith, lt))
condition_same (suc l) d lt =
    word_or_same condition_word (one_of condition_keys (condition_under (condition_within l))) (one_of condition_keys (condition_under (condition_within (suc l)))) d
    (one_of_same condition_keys (condition_under (condition_within l)) (condition_under (condition_within (suc l))) d
    (λ k e is. let deep = under_depth k d e is in
    condition_under_same (condition_within l) (condition_within (suc l)) (depth e) (λ x le. condition_same l x (omega (arith, lt, deep, le))) k e (omega arith)))

-- ---- modules

nested_same : (l : ℕ) (path : List (List ℕ)) → ((x : Data) → depth x < 2 * l → SaySame (module_within l path) (module_within (suc l) path) x)
    → (d : Data) → depth d ≤ 2 * l → SaySame (nested_in l path) (nested_in (suc l) path) d
nested_same l own same d le =
    refined_same (λ x. Some (in_a_row x)) (list (module_within l own)) (list (module_within (suc l) own)) d
    (list_same (module_within l own) (module_within (suc l) own) d (λ x lt. same x (omega (arith, le, lt))))

-- a module takes two levels of the text
module_same : (l : ℕ) (parent : List (List ℕ)) (d : Data) → depth d < 2 * l → SaySame (module_within l parent) (module_within (suc l) parent) d
module_same zero parent d lt = absurd (omega (arith, lt))
module_same (suc l) parent d lt =
    object_same (module_parts (nested_in l) parent) (module_parts (nested_in (suc l)) parent) d
    (both_same _ _ _ _ d (both_same _ _ _ _ d (both_same _ _ _ _ d (both_same _ _ _ _ d (made_same named_module d)
    (needs_same key.Name any_text any_text d (λ e is. itself any_text e)))
    (parts_itself (told (path_in parent)) (told_lawful (path_in parent)) d))
    (parts_itself (grouped contents) (grouped_lawful contents contents_lawful) d))
    (may_be_by_same key.Modules (λ d. nested_in l (path_in parent d)) (λ d. nested_in (suc l) (path_in parent d)) [] d
    (λ e is. let deep = under_depth key.Modules d e is in
    nested_same l (path_in parent d) (module_same l (path_in parent d)) e (omega (arith, lt, deep)))))

-- ---- any number of levels more

module _ {A : Type 0} (form : ℕ → Form A) (more : (l : ℕ) (d : Data) → depth d < l → SaySame (form l) (form (suc l)) d) where
  level_up : (n l : ℕ) (d : Data) → depth d < l → SaySame (form l) (form (l + n)) d
  level_up zero l d lt = subst (λ m. SaySame (form l) (form m) d) (omega arith) (itself (form l) d)
  level_up (suc n) l d lt =
      and_then (form l) (form (l + n)) (form (l + suc n)) d (level_up n l d lt)
      (subst (λ m. SaySame (form (l + n)) (form m) d) (omega arith) (more (l + n) d (omega (arith, lt))))

-- a type nests no deeper than its text, and more levels change nothing
pub type_levels : (n : ℕ) (d : Data) → depth d ≤ 127 → SaySame (type_within 128) (type_within (128 + n)) d
type_levels n d le = level_up type_within type_same n 128 d (omega (arith, le))

pub condition_levels : (n : ℕ) (d : Data) → depth d ≤ 127 → SaySame (condition_within 128) (condition_within (128 + n)) d
condition_levels n d le = level_up condition_within condition_same n 128 d (omega (arith, le))

nested_up : (n l : ℕ) (own : List (List ℕ)) (d : Data) → depth d ≤ 2 * l → SaySame (nested_in l own) (nested_in (l + n) own) d
nested_up zero l own d le =
    let none : l ≡ l + 0 = omega arith in
    subst (λ m. SaySame (nested_in l own) (nested_in m own) d) none (itself (nested_in l own) d)
nested_up (suc n) l own d le =
    let one : suc (l + n) ≡ l + suc n = omega arith in
    and_then (nested_in l own) (nested_in (l + n) own) (nested_in (l + suc n) own) d (nested_up n l own d le)
    (subst (λ m. SaySame (nested_in (l + n) own) (nested_in m own) d) one (nested_same (l + n) own (module_same (l + n) own) d (omega (arith, le))))

pub module_levels : (n : ℕ) (path : List (List ℕ)) (d : Data) → depth d ≤ 127 → SaySame (nested_in 64 path) (nested_in (64 + n) path) d
module_levels n own d le = nested_up n 64 own d (omega (arith, le))

pub nothing_is_cut : CutsNothing
nothing_is_cut n d le = record { types = type_levels n d le; conditions = condition_levels n d le; modules = λ own. module_levels n own d le }
