-- What is read under the next key of an object.
use Rattle.std.specs.Prelude.{◌≡◌, List, Option, Result, Ok, Err}
use Rattle.serde_json.specs.Data.{Data}
use Rattle.bridge_form.specs.declared.fault.Fault.{Fault}
use Rattle.bridge_form.specs.declared.fault.ReadFault.{ReadFault}
use Rattle.bridge_form.specs.declared.keys.Key.{Key}
use Rattle.bridge_form.specs.Reading.{held_of, needed_of, optional_of, under}
use Rattle.bridge_form.specs.Given.{Stops}
use Rattle.bridge_form.specs.declared.fields.Fields.{Fields}
use Rattle.bridge_form.specs.Left.{IsLeft}

-- what is read under a key that is required
abbrev pub needed : {A : Type 0} → (Data → Result A Fault) → Key → Data → Result A Fault
needed read key d = needed_of read key (under key d)

-- what is read under a key, if anything stands there
abbrev pub optional : {A : Type 0} → (Data → Result A Fault) → Key → Data → Result (Option A) Fault
optional read key d = optional_of read key (under key d)

-- what is read under a key, or what its absence stands for
abbrev pub held : {A : Type 0} → A → (Data → Result A Fault) → Key → Data → Result A Fault
held absent read key d = held_of absent read key (under key d)

-- what is read of the first keys, with the other ones left after it, or its fault
abbrev pub Takes : {A : Type 0} → Result A ReadFault → Result A Fault → Fields → List Key → Data → Type 0
Takes (Ok x) read left keys d = (read ≡ Ok x) × IsLeft left keys d
Takes (Err fault) read left keys d = Stops fault read
