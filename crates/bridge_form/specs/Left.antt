-- What is left to read of an object, where what stands under each key of its form lies in a slot of its own.
use Rattle.std.specs.Prelude.{◌≡◌, List, [], ◌∷◌, map, drop, Bool, true, ◌&&◌, not, Option, option_map, Result, Ok, Err}
use Rattle.serde_json.specs.Data.{Data}
use Rattle.serde_json.specs.View.{view}
use Rattle.serde_json.specs.declared.value.Value.{Value}
use Rattle.bridge_form.specs.declared.fault.ReadFault.{ReadFault}
use Rattle.bridge_form.specs.declared.fields.Fields.{Fields}
use Rattle.bridge_form.specs.declared.keys.Key.{Key}
use Rattle.bridge_form.specs.Keys.{key_text}
use Rattle.bridge_form.specs.Reading.{is_one_of, under, only}
use Rattle.bridge_form.specs.Given.{Stops}

-- what lies in slots, one for each key
abbrev pub Slots : Type 0
Slots = List (Option Data)

abbrev pub seen : Key × Option Value → Key × Option Data
seen one = (one.0, option_map view one.1)

abbrev pub one_seen : Key × Value → Key × Data
one_seen one = (one.0, view one.1)

abbrev pub slots_seen : List (Option Value) → Slots
slots_seen slots = map (λ v. option_map view v) slots

-- no two of the keys have one text
unfoldable pub are_apart : List Key → Bool
are_apart [] = true
are_apart (k ∷ ks) = not (is_one_of ks (key_text k)) && are_apart ks

-- these keys are left, and what stands under each in the object
unfoldable pub IsLeft : Fields → List Key → Data → Type 0
IsLeft fields keys d = (drop fields.read fields.keys.now ≡ keys)
    × (drop fields.read (slots_seen fields.slots.items) ≡ map (λ k. under k d) keys)

-- an object that has no other keys is open, and all of these are left; another value is refused
abbrev pub Opens : Result Fields ReadFault → List Key → Data → Type 0
Opens (Ok fields) keys d = (only keys d ≡ Ok tt) × IsLeft fields keys d
Opens (Err fault) keys d = Stops fault (only keys d)
