-- Where a pointer leads in a value, and which object spells a module.
use Rattle.std.specs.Prelude.{◌≡◌, ℕ, List, [], ◌∷◌, ◌⊎◌, Option, Some, option_and_then}
use Rattle.serde_json.specs.Data.{Data}
use Rattle.serde_json.specs.Find.{get, at}
use Rattle.bridge_decl.specs.declared.modules.Module.{Module}
use Rattle.bridge_form.specs.declared.keys.Key.TheVariants as key
use Rattle.bridge_read.specs.declared.modules.Contents.{Contents}
use Rattle.bridge_form.specs.declared.pointer.Step.{Step}
use Rattle.bridge_form.specs.declared.pointer.Step.TheVariants.{Member, Index}
use Rattle.bridge_form.specs.Form.{HeldAt, list}
use Rattle.bridge_form.specs.Reading.{under}
use Rattle.bridge_read_parts.specs.forms.Attrs.{attrs, no_attrs}
use Rattle.bridge_read.specs.forms.Items.{item_form}
use Rattle.bridge_read.specs.forms.Modules.{alias, path_in}

-- where a step leads from a value
abbrev pub step_from : Data → Step → Option Data
step_from d (Member name) = get name d
step_from d (Index n) = at n d

-- where steps lead from a value, one after the other; none where one leads nowhere
abbrev pub leads_to : List Step → Data → Option Data
leads_to [] d = Some d
leads_to (step ∷ steps) d = option_and_then (leads_to steps) (step_from d step)

-- the object spells what stands in a module besides other modules
pub record SpellsContents (d : Data) (holds : Contents) : Type 0 where
  pub attributes : HeldAt attrs no_attrs (under key.Attrs d) (λ x. x ≡ holds.attrs)
  pub listed : HeldAt (list item_form) [] (under key.Items d) (λ x. x ≡ holds.items)
  pub renamed : HeldAt (list alias) [] (under key.Aliases d) (λ x. x ≡ holds.aliases)

-- the object spells the module: what stands in it besides other modules, and its name, which is the end of its path; the root has none
pub record SpellsModule (d : Data) (m : Module) : Type 0 where
  pub contents : SpellsContents d (record { attrs = m.attrs; items = m.items; aliases = m.aliases })
  pub path : (m.path ≡ []) ⊎ ((parent : List (List ℕ)) × (m.path ≡ path_in parent d))

-- the pointer leads in the value to an object that spells the module
abbrev pub LeadsTo : Data → List Step → Module → Type 0
LeadsTo d steps m = (o : Data) × (leads_to steps d ≡ Some o) × SpellsModule o m
