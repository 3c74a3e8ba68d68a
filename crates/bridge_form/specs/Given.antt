-- What the reading functions of the code answer.
use Rattle.std.specs.Prelude.{◌≡◌, Result, Ok, Err}
use Rattle.bridge_form.specs.declared.fault.Fault.{Fault}
use Rattle.bridge_form.specs.declared.fault.ReadFault.{ReadFault}
use Rattle.bridge_form.specs.declared.fault.ReadFault.TheVariants.{Bad, NoMemory}

-- a reader answers so, unless memory ran out
abbrev pub Stops : {A : Type 0} → ReadFault → Result A Fault → Type 0
Stops (Bad fault) read = read ≡ Err fault
Stops NoMemory read = Unit {0}

abbrev pub GivesBy : {X A : Type 0} → (X → A) → Result X ReadFault → Result A Fault → Type 0
GivesBy view (Ok x) read = read ≡ Ok (view x)
GivesBy view (Err fault) read = Stops fault read

abbrev pub Gives : {A : Type 0} → Result A ReadFault → Result A Fault → Type 0
Gives (Ok x) read = read ≡ Ok x
Gives (Err fault) read = Stops fault read
