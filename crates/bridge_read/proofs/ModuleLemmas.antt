-- Modules that are read one after the other, and the name of a module.
use Rattle.std.proofs.Common.{◌≡◌, ℕ, List, ◌++◌, Result, Option, Some, None, Ok, Err, refl}
use Rattle.std.specs.Prelude.{option_and_then}
use Rattle.serde_json.specs.Data.{Data, null, boolean, number, string, array, object, Items}
use Rattle.serde_json.specs.Find.{as_str}
use Rattle.bridge_form.specs.declared.fault.Fault.{Fault}
use Rattle.bridge_form.specs.declared.fault.ReadFault.{ReadFault}
use Rattle.bridge_form.specs.declared.fault.ReadFault.TheVariants.{Bad, NoMemory}
use Rattle.bridge_form.specs.declared.keys.Key.TheVariants as key
use Rattle.bridge_form.specs.Reading.{◌>>=◌, each_of, needed_of, text_of, under}
use Rattle.bridge_form.specs.Given.{Stops}
use Rattle.bridge_read_parts.specs.Taking.{needed}
use Rattle.bridge_read.specs.forms.Modules.{any_text, in_a_row, name_of, or_empty}

-- the modules that were read, followed by those that are read of the entries that are left
abbrev pub modules_after : {A : Type 0} → (Data → Result (List A) Fault) → ℕ → List A → Items → Result (List A) Fault
modules_after read n before ds = each_of read n ds >>= (λ lists. Ok (before ++ in_a_row lists))

named_at : (x : Option Data) (name : List ℕ) → needed_of text_of key.Name x ≡ Ok name → (needed_of any_text.read key.Name x ≡ Ok tt) × (name ≡ or_empty (option_and_then as_str x))
unfolding any_text text_of
named_at None name e = absurd cc
named_at (Some null) name e = absurd cc
named_at (Some (boolean b)) name e = absurd cc
named_at (Some (number n)) name e = absurd cc
named_at (Some (string s)) name e = (refl, cc)
named_at (Some (array ds)) name e = absurd cc
named_at (Some (object ms)) name e = absurd cc

not_named_at : (x : Option Data) (fault : Fault) → needed_of text_of key.Name x ≡ Err fault → needed_of any_text.read key.Name x ≡ Err fault
unfolding any_text text_of
not_named_at None fault e = cc
not_named_at (Some null) fault e = cc
not_named_at (Some (boolean b)) fault e = cc
not_named_at (Some (number n)) fault e = cc
not_named_at (Some (string s)) fault e = absurd cc
not_named_at (Some (array ds)) fault e = cc
not_named_at (Some (object ms)) fault e = cc

-- the name that is read is that of the module
pub named : (d : Data) (name : List ℕ) → needed text_of key.Name d ≡ Ok name → (needed any_text.read key.Name d ≡ Ok tt) × (name ≡ name_of d)
named d name e = named_at (under key.Name d) name e

-- and what is no name is no text
pub not_named : (d : Data) (fault : ReadFault) → Stops fault (needed text_of key.Name d) → Stops fault (needed any_text.read key.Name d)
not_named d (Bad fault) e = not_named_at (under key.Name d) fault e
not_named d NoMemory e = tt
