-- The pointer of each module leads to the object that spells it.
use Rattle.std.proofs.Common.{◌≡◌, ℕ, zero, suc, ◌+◌, List, [], ◌∷◌, ◌++◌, map, Option, Some, None, option_and_then, refl, sym, ap, subst, ◌∙◌, inl, inr, arith}
use Rattle.std.specs.Prelude.{◌⊎◌, slice_get}
use Rattle.serde_json.specs.Data.{Data, null, boolean, number, string, array, object, Items, no_items, item}
use Rattle.serde_json.specs.Find.{get, get_item}
use Rattle.bridge_decl.specs.declared.modules.Module.{Module}
use Rattle.bridge_read.specs.declared.input.Declared.{Declared}
use Rattle.bridge_form.specs.declared.keys.Key.{Key}
use Rattle.bridge_form.specs.declared.keys.Key.TheVariants as key
use Rattle.bridge_read.specs.declared.modules.Contents.{Contents}
use Rattle.bridge_form.specs.declared.pointer.Step.{Step}
use Rattle.bridge_form.specs.declared.pointer.Step.TheVariants.{Index}
use Rattle.bridge_form.specs.Form.{Form, Each, IsList, NeededAt, HeldAt, list}
use Rattle.bridge_form.specs.Keys.{key_text}
use Rattle.bridge_read.specs.ModulePlaces.{leads_to, SpellsContents, LeadsTo}
use Rattle.bridge_pointers.specs.Pointers.{in_entries, in_modules, in_root, items_of, module_pointers, modules_within}
use Rattle.bridge_form.specs.Reading.{at_key, not_null, under}
use Rattle.bridge_read_parts.specs.forms.Attrs.{attrs, no_attrs}
use Rattle.bridge_read.specs.forms.Inputs.{no_backend, whole}
use Rattle.bridge_read.specs.forms.Items.{item_form}
use Rattle.bridge_read.specs.forms.Modules.{alias, any_text, contents, in_a_row, module_of, module_within, nested_in, path_in, root}
use Rattle.bridge_read.specs.forms.Settings.{backend, config, no_config, urls, no_urls}
use Rattle.bridge_read.proofs.CountLemmas.{given_is, held_gives, needed_grows}

-- ---- lists beside each other

module _ {A B : Type 0} where
  abbrev pub Beside : (A → B → Type 0) → List A → List B → Type 0
  Beside R [] [] = Unit {0}
  Beside R [] (y ∷ ys) = ⊥
  Beside R (x ∷ xs) [] = ⊥
  Beside R (x ∷ xs) (y ∷ ys) = R x y × Beside R xs ys

  beside_both : (R : A → B → Type 0) (xs : List A) (ys : List B) (more : List A) (others : List B) → Beside R xs ys → Beside R more others → Beside R (xs ++ more) (ys ++ others)
  beside_both R [] [] more others h k = k
  beside_both R [] (y ∷ ys) more others h k = absurd h
  beside_both R (x ∷ xs) [] more others h k = absurd h
  beside_both R (x ∷ xs) (y ∷ ys) more others h k = (h.0, beside_both R xs ys more others h.1 k)

  beside_weaker : (R S : A → B → Type 0) → ((x : A) (y : B) → R x y → S x y) → (xs : List A) (ys : List B) → Beside R xs ys → Beside S xs ys
  beside_weaker R S more [] [] h = tt
  beside_weaker R S more [] (y ∷ ys) h = absurd h
  beside_weaker R S more (x ∷ xs) [] h = absurd h
  beside_weaker R S more (x ∷ xs) (y ∷ ys) h = (more x y h.0, beside_weaker R S more xs ys h.1)

  beside_map : (R S : A → B → Type 0) (f : A → A) → ((x : A) (y : B) → R x y → S (f x) y) → (xs : List A) (ys : List B) → Beside R xs ys → Beside S (map f xs) ys
  beside_map R S f more [] [] h = tt
  beside_map R S f more [] (y ∷ ys) h = absurd h
  beside_map R S f more (x ∷ xs) [] h = absurd h
  beside_map R S f more (x ∷ xs) (y ∷ ys) h = (more x y h.0, beside_map R S f more xs ys h.1)

  beside_at : (R : A → B → Type 0) (xs : List A) (ys : List B) (n : ℕ) (y : B) → Beside R xs ys → slice_get ys n ≡ Some y → (x : A) × (slice_get xs n ≡ Some x) × R x y
  beside_at R [] [] n y h e = absurd cc
  beside_at R [] (z ∷ ys) n y h e = absurd h
  beside_at R (x ∷ xs) [] n y h e = absurd h
  beside_at R (x ∷ xs) (z ∷ ys) zero y h e = (x, refl, subst (R x) (given_is z y e) h.0)
  beside_at R (x ∷ xs) (z ∷ ys) (suc n) y h e = beside_at R xs ys n y h.1 e

-- ---- what stands under a key

not_null_is : (o : Option Data) (d : Data) → option_and_then not_null o ≡ Some d → o ≡ Some d
not_null_is None d e = absurd cc
not_null_is (Some null) d e = absurd cc
not_null_is (Some (boolean b)) d e = e
not_null_is (Some (number n)) d e = e
not_null_is (Some (string s)) d e = e
not_null_is (Some (array ds)) d e = e
not_null_is (Some (object ms)) d e = e

got_under : (k : Key) (d e : Data) → under k d ≡ Some e → get (key_text k) d ≡ Some e
unfolding under
got_under k d e is = not_null_is (get (key_text k) d) e is

-- steps from what stands under a key, as steps from the object
leads_under : (k : Key) (d e : Data) (steps : List Step) (m : Module) → under k d ≡ Some e → LeadsTo e steps m → LeadsTo d (at_key k ∷ steps) m
leads_under k d e steps m is h = (h.0, ap (option_and_then (leads_to steps)) (got_under k d e is) ∙ h.1, h.2)

-- ---- what an object spells

held_splits : {A : Type 0} (form : Form A) (absent : A) (o : Option Data) (K : A → Type 0) → HeldAt form absent o K → (x : A) × HeldAt form absent o (λ y. y ≡ x) × K x
held_splits form absent None K h = (absent, refl, h)
held_splits form absent (Some d) K h = (h.0, (h.0, h.1, refl), h.2)

contents_split : (d : Data) (K : Contents → Type 0) → contents.Spell d K → (holds : Contents) × SpellsContents d holds × K holds
unfolding contents
contents_split d K h =
    let a = held_splits attrs no_attrs (under key.Attrs d) _ h in
    let i = held_splits (list item_form) [] (under key.Items d) _ a.2 in
    let l = held_splits (list alias) [] (under key.Aliases d) _ i.2 in
    (record { attrs = a.0; items = i.0; aliases = l.0 }, record { attributes = a.1; listed = i.1; renamed = l.1 }, l.2)

-- ---- entries of lists

-- the steps lead to an entry of these, of which the first has the number n
abbrev LeadsIn : ℕ → Items → List Step → Module → Type 0
LeadsIn n ds steps m = (k : ℕ) × (rest : List Step) × (steps ≡ Index (n + k) ∷ rest) × (o : Data) × (get_item k ds ≡ Some o) × LeadsTo o rest m

unmoved : (n : ℕ) → n ≡ n + 0
unmoved n = omega arith

shifted : (n k : ℕ) → n + 1 + k ≡ n + suc k
shifted n k = omega arith

from_zero : (k : ℕ) → 0 + k ≡ k
from_zero k = omega arith

in_first : (n : ℕ) (d : Data) (ds : Items) (steps : List Step) (m : Module) → LeadsTo d steps m → LeadsIn n (item d ds) (Index n ∷ steps) m
in_first n d ds steps m h = (0, steps, ap (λ k. Index k ∷ steps) (unmoved n), d, refl, h)

in_later : (n : ℕ) (d : Data) (ds : Items) (steps : List Step) (m : Module) → LeadsIn (n + 1) ds steps m → LeadsIn n (item d ds) steps m
in_later n d ds steps m (k, rest, is, o, at, h) = (suc k, rest, is ∙ ap (λ i. Index i ∷ rest) (shifted n k), o, at, h)

in_all : (ds : Items) (steps : List Step) (m : Module) → LeadsIn 0 ds steps m → LeadsTo (array ds) steps m
in_all ds steps m (k, rest, is, o, at, h) =
    subst (λ s. LeadsTo (array ds) s m) (sym (is ∙ ap (λ i. Index i ∷ rest) (from_zero k))) (h.0, ap (option_and_then (leads_to rest)) at ∙ h.1, h.2)

module _ (levels : ℕ) (lead : (path : List (List ℕ)) (d : Data) (ms : List Module) → (module_within levels path).Spells d ms → Beside (LeadsTo d) (modules_within levels d) ms) where
  each_lead : (path : List (List ℕ)) (n : ℕ) (ds : Items) (lists : List (List Module)) → Each (module_within levels path).Spells ds lists
      → Beside (LeadsIn n ds) (in_entries (modules_within levels) n ds) (in_a_row lists)
  each_lead path n no_items [] h = tt
  each_lead path n no_items (x ∷ xs) h = absurd h
  each_lead path n (item d ds) [] h = absurd h
  each_lead path n (item d ds) (x ∷ xs) h =
      beside_both (LeadsIn n (item d ds)) (map (λ steps. Index n ∷ steps) (modules_within levels d)) x (in_entries (modules_within levels) (n + 1) ds) (in_a_row xs)
      (beside_map (LeadsTo d) (LeadsIn n (item d ds)) (λ steps. Index n ∷ steps) (in_first n d ds) (modules_within levels d) x (lead path d x h.0))
      (beside_weaker (LeadsIn (n + 1) ds) (LeadsIn n (item d ds)) (in_later n d ds) (in_entries (modules_within levels) (n + 1) ds) (in_a_row xs) (each_lead path (n + 1) ds xs h.1))

  list_leads : (path : List (List ℕ)) (d : Data) (lists : List (List Module)) → IsList (module_within levels path).Spells d lists
      → Beside (LeadsTo d) (in_entries (modules_within levels) 0 (items_of d)) (in_a_row lists)
  unfolding items_of
  list_leads path null lists h = absurd h
  list_leads path (boolean b) lists h = absurd h
  list_leads path (number n) lists h = absurd h
  list_leads path (string s) lists h = absurd h
  list_leads path (array ds) lists h = beside_weaker (LeadsIn 0 ds) (LeadsTo (array ds)) (in_all ds) (in_entries (modules_within levels) 0 ds) (in_a_row lists) (each_lead path 0 ds lists h)
  list_leads path (object ms) lists h = absurd h

  nested_leads : (path : List (List ℕ)) (d : Data) (ms : List Module) → (nested_in levels path).Spells d ms
      → Beside (LeadsTo d) (in_entries (modules_within levels) 0 (items_of d)) ms
  nested_leads path d ms h =
      subst (Beside (LeadsTo d) (in_entries (modules_within levels) 0 (items_of d))) (given_is (in_a_row h.0) ms h.2) (list_leads path d h.0 h.1)

  -- a module, and those that stand in it
  module_leads : (path own : List (List ℕ)) (d : Data) (holds : Contents) (spells : SpellsContents d holds) (named : (own ≡ []) ⊎ ((parent : List (List ℕ)) × (own ≡ path_in parent d)))
      (o : Option Data) (is : under key.Modules d ≡ o) (ms : List Module)
      → HeldAt (nested_in levels path) [] o (λ inner. module_of own holds inner ≡ ms) → Beside (LeadsTo d) ([] ∷ in_modules (modules_within levels) o) ms
  module_leads path own d holds spells named None is ms h =
      subst (Beside (LeadsTo d) ([] ∷ [])) h ((d, refl, record { contents = spells; path = named }), tt)
  module_leads path own d holds spells named (Some e) is ms h =
      subst (Beside (LeadsTo d) ([] ∷ in_modules (modules_within levels) (Some e))) h.2 (
        (d, refl, record { contents = spells; path = named }),
        beside_map (LeadsTo e) (LeadsTo d) (λ steps. at_key key.Modules ∷ steps) (λ steps m k. leads_under key.Modules d e steps m is k)
            (in_entries (modules_within levels) 0 (items_of e)) h.0 (nested_leads path e h.0 h.1),
      )

  contents_lead : (path own : List (List ℕ)) (d : Data) (named : (own ≡ []) ⊎ ((parent : List (List ℕ)) × (own ≡ path_in parent d))) (ms : List Module)
      → contents.Spell d (λ holds. HeldAt (nested_in levels path) [] (under key.Modules d) (λ inner. module_of own holds inner ≡ ms))
      → Beside (LeadsTo d) ([] ∷ in_modules (modules_within levels) (under key.Modules d)) ms
  contents_lead path own d named ms h =
      let holds = contents_split d (λ holds. HeldAt (nested_in levels path) [] (under key.Modules d) (λ inner. module_of own holds inner ≡ ms)) h in
      module_leads path own d holds.0 holds.1 named (under key.Modules d) refl ms holds.2

  named_leads : (parent : List (List ℕ)) (d : Data) (o : Option Data) (ms : List Module)
      → NeededAt any_text o (λ named. contents.Spell d (λ holds. HeldAt (nested_in levels (path_in parent d)) [] (under key.Modules d) (λ inner. module_of (path_in parent d) holds inner ≡ ms)))
      → Beside (LeadsTo d) ([] ∷ in_modules (modules_within levels) (under key.Modules d)) ms
  named_leads parent d None ms h = absurd h
  named_leads parent d (Some name) ms h = contents_lead (path_in parent d) (path_in parent d) d (inr (parent, refl)) ms h.2

leads : (levels : ℕ) (parent : List (List ℕ)) (d : Data) (ms : List Module) → (module_within levels parent).Spells d ms → Beside (LeadsTo d) (modules_within levels d) ms
leads zero parent d ms h = absurd h
leads (suc levels) parent d ms h = named_leads levels (leads levels) parent d (under key.Name d) ms h.1

root_leads : (d : Data) (ms : List Module) → root.Spells d ms → Beside (LeadsTo d) (modules_within 65 d) ms
unfolding root
root_leads d ms h = contents_lead 64 (leads 64) [] [] d (inl refl) ms h.1

in_root_leads : (d : Data) (o : Option Data) (is : under key.Root d ≡ o) (declared : Declared)
    → NeededAt root o (λ ms. ms ≡ declared.modules) → Beside (LeadsTo d) (in_root o) declared.modules
in_root_leads d None is declared h = absurd h
in_root_leads d (Some e) is declared h =
    subst (Beside (LeadsTo d) (in_root (Some e))) h.2
    (beside_map (LeadsTo e) (LeadsTo d) (λ steps. at_key key.Root ∷ steps) (λ steps m k. leads_under key.Root d e steps m is k) (modules_within 65 e) h.0 (root_leads e h.0 h.1))

-- the pointer of the n-th module of what a value declares leads to the object that spells it
pub pointer_leads : (d : Data) (declared : Declared) (n : ℕ) (m : Module) → whole.Spells d declared → slice_get declared.modules n ≡ Some m
    → (steps : List Step) × (slice_get (module_pointers d) n ≡ Some steps) × LeadsTo d steps m
unfolding whole
pointer_leads d declared n m h at =
    beside_at (LeadsTo d) (module_pointers d) declared.modules n m
    (in_root_leads d (under key.Root d) refl declared (needed_grows root (under key.Root d) _ (λ ms. ms ≡ declared.modules)
    (λ ms k. held_gives backend no_backend (under key.Backend d) _ (ms ≡ declared.modules)
    (λ b l. held_gives config no_config (under key.Config d) _ (ms ≡ declared.modules)
    (λ c m. held_gives urls no_urls (under key.Docs d) _ (ms ≡ declared.modules) (λ u e. ap (λ (x : Declared). x.modules) e) m) l) k) h.1))
    at
