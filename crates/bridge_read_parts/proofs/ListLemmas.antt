-- Reading the entries of a list one after the other, as a loop does.
use Rattle.std.proofs.Common.{List, ◌++◌, length, Result, Ok, refl}
use Rattle.serde_json.specs.Data.{Data, Items}
use Rattle.bridge_form.specs.declared.fault.Fault.{Fault}
use Rattle.bridge_form.specs.declared.fault.ReadFault.{ReadFault}
use Rattle.bridge_form.specs.declared.fault.ReadFault.TheVariants.{Bad, NoMemory}
use Rattle.bridge_form.specs.Reading.{◌>>=◌, each_of}
use Rattle.bridge_form.specs.Given.{Stops}

-- what was read, followed by what is read of the entries that are left
abbrev pub each_after : {A : Type 0} → (Data → Result A Fault) → List A → Items → Result (List A) Fault
each_after read before ds = each_of read (length before) ds >>= (λ others. Ok (before ++ others))

-- what stops a reader stops what goes on from it
pub stops_on : {A B : Type 0} (fault : ReadFault) (read : Result A Fault) (f : A → Result B Fault) → Stops fault read → Stops fault (read >>= f)
stops_on (Bad fault) read f e = rw e refl
stops_on NoMemory read f e = tt
