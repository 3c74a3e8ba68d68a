-- Lists of one entry or more.
use Rattle.std.specs.Prelude.{List, Result}
use Rattle.serde_json.specs.Data.{Data}
use Rattle.bridge_form.specs.declared.fault.Fault.{Fault}
use Rattle.bridge_form.specs.Reading.{not_empty, refined_of}

-- a list that isn't empty
abbrev pub some_of : {A : Type 0} → (Data → Result (List A) Fault) → Data → Result (List A) Fault
some_of read = refined_of not_empty read
