-- Where the modules of an input and their parts stand in it.
use Rattle.std.specs.Prelude.{ℕ, zero, suc, ◌+◌, List, [], ◌∷◌, ◌++◌, map, slice_index_or, Option, Some, None}
use Rattle.serde_json.specs.Data.{Data, null, boolean, number, string, array, object, Items, no_items, item}
use Rattle.bridge_ast.specs.declared.fault.EnvPart.{EnvPart}
use Rattle.bridge_ast.specs.declared.fault.EnvPart.TheVariants as part
use Rattle.bridge_ast.specs.declared.fault.EnvPlace.{EnvPlace}
use Rattle.bridge_form.specs.declared.keys.Key.{Key}
use Rattle.bridge_form.specs.declared.keys.Key.TheVariants as key
use Rattle.bridge_form.specs.declared.pointer.Step.{Step}
use Rattle.bridge_form.specs.declared.pointer.Step.TheVariants.{Index}
use Rattle.bridge_form.specs.Reading.{at_key, under}

-- ---- where modules stand

-- the entries of a list; none of anything else
unfoldable pub items_of : Data → Items
items_of null = no_items
items_of (boolean b) = no_items
items_of (number n) = no_items
items_of (string s) = no_items
items_of (array ds) = ds
items_of (object ms) = no_items

module _ (inside : Data → List (List Step)) where
  -- those in the entries of a list, of which the first has the number n
  abbrev pub in_entries : ℕ → Items → List (List Step)
  in_entries n no_items = []
  in_entries n (item d ds) = map (λ steps. Index n ∷ steps) (inside d) ++ in_entries (n + 1) ds

  abbrev pub in_modules : Option Data → List (List Step)
  in_modules None = []
  in_modules (Some d) = map (λ steps. at_key key.Modules ∷ steps) (in_entries 0 (items_of d))

-- the pointers of a module and of those that stand in it, so many levels deep: each module before those inside it, as their
-- declarations are listed
abbrev pub modules_within : ℕ → Data → List (List Step)
modules_within zero d = []
modules_within (suc levels) d = [] ∷ in_modules (modules_within levels) (under key.Modules d)

abbrev pub in_root : Option Data → List (List Step)
in_root None = []
in_root (Some d) = map (λ steps. at_key key.Root ∷ steps) (modules_within 65 d)

-- the pointers of the modules of an input: of the root, in which modules nest 64 deep, and of those in it
abbrev pub module_pointers : Data → List (List Step)
module_pointers d = in_root (under key.Root d)

-- ---- where parts of modules stand

abbrev pub entry : Key → ℕ → List Step → List Step
entry name n steps = at_key name ∷ Index n ∷ steps

abbrev pub method_steps : Option ℕ → List Step → List Step
method_steps None steps = steps
method_steps (Some n) steps = entry key.Methods n steps

-- from a module to a part of it
abbrev pub part_steps : EnvPart → List Step
part_steps part.Module = []
part_steps (part.Item n) = entry key.Items n []
part_steps (part.Alias n) = entry key.Aliases n []
part_steps (part.Node item_number method node) = entry key.Items item_number (method_steps method (entry key.Lifetimes node []))

-- the pointer of a place, by those of the modules
abbrev pub place_steps : List (List Step) → EnvPlace → List Step
place_steps modules at = slice_index_or modules at.«module» [] ++ part_steps at.part
