-- An input has as many modules as pointers to modules.
use Rattle.std.proofs.Common.{◌≡◌, ℕ, zero, suc, ◌+◌, List, [], ◌∷◌, length, map, Option, Some, None, refl, sym, ap, subst, arith}
use Rattle.std.proofs.lemmas.List.{length-map}
use Rattle.serde_json.specs.Data.{Data, null, boolean, number, string, array, object, Items, no_items, item}
use Rattle.bridge_decl.specs.declared.modules.Module.{Module}
use Rattle.bridge_read.specs.declared.input.Declared.{Declared}
use Rattle.bridge_form.specs.declared.keys.Key.TheVariants as key
use Rattle.bridge_read.specs.declared.modules.Contents.{Contents}
use Rattle.bridge_form.specs.declared.pointer.Step.TheVariants.{Index}
use Rattle.bridge_form.specs.Form.{Form, Each, IsList, NeededAt, HeldAt}
use Rattle.bridge_pointers.specs.Pointers.{in_entries, in_modules, in_root, items_of, module_pointers, modules_within}
use Rattle.bridge_form.specs.Reading.{at_key, under}
use Rattle.bridge_read.specs.forms.Inputs.{no_backend, whole}
use Rattle.bridge_read.specs.forms.Modules.{any_text, contents, in_a_row, module_of, module_within, nested_in, path_in, root}
use Rattle.bridge_read.specs.forms.Settings.{backend, config, no_config, urls, no_urls}
use Rattle.bridge_pointers.proofs.PointerLemmas.{length_both}
use Rattle.bridge_read.proofs.forms.Modules.{contents_lawful}

abbrev given : {A : Type 0} → A → Option A
given x = Some x

pub given_is : {A : Type 0} (x y : A) → given x ≡ given y → x ≡ y
given_is x y e = cc

-- what follows from whatever stands under a key, or from its absence
pub held_gives : {A : Type 0} (form : Form A) (absent : A) (o : Option Data) (K : A → Type 0) (C : Type 0) → ((x : A) → K x → C) → HeldAt form absent o K → C
held_gives form absent None K C gives h = gives absent h
held_gives form absent (Some d) K C gives h = gives h.0 h.2

module _ (levels : ℕ) (count : (path : List (List ℕ)) (d : Data) (ms : List Module) → (module_within levels path).Spells d ms → length ms ≡ length (modules_within levels d)) where
  each_counted : (path : List (List ℕ)) (n : ℕ) (ds : Items) (lists : List (List Module)) → Each (module_within levels path).Spells ds lists
      → length (in_a_row lists) ≡ length (in_entries (modules_within levels) n ds)
  each_counted path n no_items [] h = refl
  each_counted path n no_items (x ∷ xs) h = absurd h
  each_counted path n (item d ds) [] h = absurd h
  each_counted path n (item d ds) (x ∷ xs) h =
      let first = count path d x h.0 in
      let others = each_counted path (n + 1) ds xs h.1 in
      let here = length-map (modules_within levels d) (λ steps. Index n ∷ steps) in
      let both = length_both x (in_a_row xs) in
      let all = length_both (map (λ steps. Index n ∷ steps) (modules_within levels d)) (in_entries (modules_within levels) (n + 1) ds) in
      omega (arith, first, others, here, both, all)

  list_counted : (path : List (List ℕ)) (d : Data) (lists : List (List Module)) → IsList (module_within levels path).Spells d lists
      → length (in_a_row lists) ≡ length (in_entries (modules_within levels) 0 (items_of d))
  unfolding items_of
  list_counted path null lists h = absurd h
  list_counted path (boolean b) lists h = absurd h
  list_counted path (number n) lists h = absurd h
  list_counted path (string s) lists h = absurd h
  list_counted path (array ds) lists h = each_counted path 0 ds lists h
  list_counted path (object ms) lists h = absurd h

  nested_counted : (path : List (List ℕ)) (d : Data) (ms : List Module) → (nested_in levels path).Spells d ms
      → length ms ≡ length (in_entries (modules_within levels) 0 (items_of d))
  nested_counted path d ms h =
      subst (λ (all : List Module). length all ≡ length (in_entries (modules_within levels) 0 (items_of d))) (given_is (in_a_row h.0) ms h.2) (list_counted path d h.0 h.1)

  module_counted : (path own : List (List ℕ)) (holds : Contents) (o : Option Data) (ms : List Module)
      → HeldAt (nested_in levels path) [] o (λ inner. module_of own holds inner ≡ ms) → length ms ≡ suc (length (in_modules (modules_within levels) o))
  module_counted path own holds None ms h = ap length (sym h)
  module_counted path own holds (Some d) ms h =
      let inner = nested_counted path d h.0 h.1 in
      let all : length ms ≡ suc (length h.0) = ap length (sym h.2) in
      let under_key = length-map (in_entries (modules_within levels) 0 (items_of d)) (λ steps. at_key key.Modules ∷ steps) in
      omega (arith, inner, all, under_key)

  contents_counted : (path own : List (List ℕ)) (d : Data) (ms : List Module)
      → contents.Spell d (λ holds. HeldAt (nested_in levels path) [] (under key.Modules d) (λ inner. module_of own holds inner ≡ ms))
      → length ms ≡ suc (length (in_modules (modules_within levels) (under key.Modules d)))
  contents_counted path own d ms h =
      let C : Type 0 = length ms ≡ suc (length (in_modules (modules_within levels) (under key.Modules d))) in
      contents_lawful.reaches d C (contents_lawful.grows d (λ holds. HeldAt (nested_in levels path) [] (under key.Modules d) (λ inner. module_of own holds inner ≡ ms)) (λ holds. C)
      (λ holds k. module_counted path own holds (under key.Modules d) ms k) h)

  named_counted : (parent : List (List ℕ)) (d : Data) (o : Option Data) (ms : List Module)
      → NeededAt any_text o (λ named. contents.Spell d (λ holds. HeldAt (nested_in levels (path_in parent d)) [] (under key.Modules d) (λ inner. module_of (path_in parent d) holds inner ≡ ms)))
      → length ms ≡ suc (length (in_modules (modules_within levels) (under key.Modules d)))
  named_counted parent d None ms h = absurd h
  named_counted parent d (Some name) ms h = contents_counted (path_in parent d) (path_in parent d) d ms h.2

counted : (levels : ℕ) (parent : List (List ℕ)) (d : Data) (ms : List Module) → (module_within levels parent).Spells d ms → length ms ≡ length (modules_within levels d)
counted zero parent d ms h = absurd h
counted (suc levels) parent d ms h = named_counted levels (counted levels) parent d (under key.Name d) ms h.1

root_counted : (d : Data) (ms : List Module) → root.Spells d ms → length ms ≡ length (modules_within 65 d)
unfolding root
root_counted d ms h = contents_counted 64 (counted 64) [] [] d ms h.1

in_root_counted : (o : Option Data) (declared : Declared)
    → NeededAt root o (λ ms. ms ≡ declared.modules) → length declared.modules ≡ length (in_root o)
in_root_counted None declared h = absurd h
in_root_counted (Some d) declared h =
    let all = root_counted d h.0 h.1 in
    let same : length h.0 ≡ length declared.modules = ap length h.2 in
    let under_key = length-map (modules_within 65 d) (λ steps. at_key key.Root ∷ steps) in
    omega (arith, all, same, under_key)

pub needed_grows : {A : Type 0} (form : Form A) (o : Option Data) (K L : A → Type 0) → ((x : A) → K x → L x) → NeededAt form o K → NeededAt form o L
needed_grows form None K L more h = h
needed_grows form (Some d) K L more h = (h.0, h.1, more h.0 h.2)

-- each module that a value declares has its pointer
pub modules_counted : (d : Data) (declared : Declared) → whole.Spells d declared → length declared.modules ≡ length (module_pointers d)
unfolding whole
modules_counted d declared h =
    in_root_counted (under key.Root d) declared (needed_grows root (under key.Root d) _ (λ ms. ms ≡ declared.modules)
    (λ ms k. held_gives backend no_backend (under key.Backend d) _ (ms ≡ declared.modules)
    (λ b l. held_gives config no_config (under key.Config d) _ (ms ≡ declared.modules)
    (λ c m. held_gives urls no_urls (under key.Docs d) _ (ms ≡ declared.modules) (λ u e. ap (λ (x : Declared). x.modules) e) m) l) k) h.1)
