-- The name of a module, read off its object.
use Rattle.std.specs.Prelude.{◌≡◌, ℕ, List, Result, Ok, Err}
use Rattle.serde_json.specs.Data.{Data}
use Rattle.bridge_form.specs.declared.fault.ReadFault.{ReadFault}
use Rattle.bridge_form.specs.declared.keys.Key.{Key}
use Rattle.bridge_form.specs.declared.keys.Key.TheVariants as key
use Rattle.bridge_form.specs.Given.{Stops}
use Rattle.bridge_read_parts.specs.Taking.{needed}
use Rattle.bridge_read.specs.forms.Modules.{any_text, name_of}
use Rattle.bridge_form.specs.declared.fields.Fields.{Fields}
use Rattle.bridge_form.specs.Left.{IsLeft}

-- a text stands under the name, which is it, and the other keys are left after it
abbrev pub NamesModule : Result (List ℕ) ReadFault → Fields → List Key → Data → Type 0
NamesModule (Ok name) left keys d = (needed any_text.read key.Name d ≡ Ok tt) × (name ≡ name_of d) × IsLeft left keys d
NamesModule (Err fault) left keys d = Stops fault (needed any_text.read key.Name d)
