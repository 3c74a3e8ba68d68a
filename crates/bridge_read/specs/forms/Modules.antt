-- Modules: an object for each, in which others nest. They are spelled as one list, each before those that stand in it.
use Rattle.std.specs.Prelude.{ℕ, zero, suc, List, [], ◌∷◌, ◌++◌, Option, Some, None, option_and_then}
use Rattle.serde_json.specs.Data.{Data}
use Rattle.serde_json.specs.Find.{as_str}
use Rattle.bridge_decl.specs.declared.attrs.Attrs.{Attrs}
use Rattle.bridge_decl.specs.declared.modules.Alias.{Alias}
use Rattle.bridge_decl.specs.declared.modules.Item.{Item}
use Rattle.bridge_decl.specs.declared.modules.Module.{Module}
use Rattle.bridge_form.specs.declared.keys.Key.TheVariants as key
use Rattle.bridge_read.specs.declared.modules.Contents.{Contents}
use Rattle.bridge_form.specs.Reading.{under}
use Rattle.bridge_form.specs.Form.{Form, Parts, object_with, made, ◌&◌, needs, may_be, may_be_by, told, grouped, mapped, never, list, text}
use Rattle.bridge_read_parts.specs.forms.Attrs.{attrs, no_attrs}
use Rattle.bridge_read.specs.forms.Items.{item_form}

abbrev pub alias_of : List ℕ → List (List ℕ) → Alias
alias_of name target = record { name = name; target = target }

-- {"name": text, "target": [texts]}
unfoldable pub alias : Form Alias
alias = object_with (made alias_of & needs key.Name text & needs key.Target (list text))

abbrev pub contents_of : Attrs → List Item → List Alias → Contents
contents_of attributes items aliases = record { attrs = attributes; items = items; aliases = aliases }

-- what stands in a module besides other modules
unfoldable pub contents : Parts Contents
contents = made contents_of & may_be key.Attrs attrs no_attrs & may_be key.Items (list item_form) [] & may_be key.Aliases (list alias) []

-- lists one after the other, as one
abbrev pub in_a_row : {A : Type 0} → List (List A) → List A
in_a_row [] = []
in_a_row (xs ∷ lists) = xs ++ in_a_row lists

abbrev pub module_of : List (List ℕ) → Contents → List Module → List Module
module_of path holds inner = record { path = path; attrs = holds.attrs; items = holds.items; aliases = holds.aliases } ∷ inner

abbrev pub named_module : Unit {0} → List (List ℕ) → Contents → List Module → List Module
named_module named path holds inner = module_of path holds inner

-- a text, whatever it is
abbrev pub nothing_of : List ℕ → Unit {0}
nothing_of written = tt

unfoldable pub any_text : Form (Unit {0})
any_text = mapped nothing_of text

-- the name of a module, as it is written
abbrev pub or_empty : Option (List ℕ) → List ℕ
or_empty (Some name) = name
or_empty None = []

abbrev pub name_of : Data → List ℕ
name_of d = or_empty (option_and_then as_str (under key.Name d))

-- the path of a module in the module of that path
abbrev pub path_in : List (List ℕ) → Data → List (List ℕ)
path_in parent d = parent ++ name_of d ∷ []

-- {"name": text, "attrs": attributes, "items": [items], "aliases": [aliases], "modules": modules}, in the module of that path
abbrev pub module_parts : (List (List ℕ) → Form (List Module)) → List (List ℕ) → Parts (List Module)
module_parts nested parent = made named_module & needs key.Name any_text & told (path_in parent) & grouped contents & may_be_by key.Modules (λ d. nested (path_in parent d)) []

-- a module in the module of that path, in which modules nest at most so deep
abbrev pub module_within : ℕ → List (List ℕ) → Form (List Module)
module_within zero parent = never
module_within (suc levels) parent = object_with (module_parts (λ path. mapped in_a_row (list (module_within levels path))) parent)

-- the modules of a list, in the module of that path
abbrev pub nested_in : ℕ → List (List ℕ) → Form (List Module)
nested_in levels path = mapped in_a_row (list (module_within levels path))

-- the root has no name. A JSON text nests at most 127 deep, and each module takes two levels of it
unfoldable pub root : Form (List Module)
root = object_with (made (module_of []) & grouped contents & may_be key.Modules (nested_in 64 []) [])
