-- What the steps of reading an input answer.
use Rattle.std.specs.Prelude.{◌≡◌, ℕ, List, slice_get, Some, Result, Ok, Err}
use Rattle.std.specs.List.{flat_map}
use Rattle.serde_json.specs.Data.{Data}
use Rattle.bridge_ast.specs.EnvFaults.{faults_of}
use Rattle.bridge_ast.specs.Sound.{AreSound}
use Rattle.bridge_decl.specs.declared.modules.Module.{Module}
use Rattle.bridge_form.specs.declared.fault.Fault.{Fault}
use Rattle.bridge_read.specs.declared.input.Declared.{Declared}
use Rattle.bridge_read.specs.declared.input.InputFault.{InputFault}
use Rattle.bridge_read.specs.declared.input.InputFault.TheVariants.{NotDeclarations, NoMemory}
use Rattle.bridge_read.specs.Inputs.{IsNone, IsToldAs, told_in}
use Rattle.bridge_read.specs.forms.Inputs.{whole}

-- where the bytes are read as no JSON value
abbrev pub IsNoJson : List ℕ → InputFault → Type 0
IsNoJson bytes (NotDeclarations what pointer) = IsNone bytes (NotDeclarations what pointer)
IsNoJson bytes NoMemory = Unit {0}

-- what the value is read as, or its first fault, unless memory ran out
abbrev pub GivesForm : Result Declared InputFault → Data → Type 0
GivesForm (Ok declared) d = whole.read d ≡ Ok declared
GivesForm (Err NoMemory) d = Unit {0}
GivesForm (Err (NotDeclarations what pointer)) d =
    (fault : Fault) × (whole.read d ≡ Err fault) × IsToldAs (NotDeclarations what pointer) fault

-- the environment of the modules that the value declares, or their first fault, unless memory ran out
abbrev pub GivesEnv : Result (List Module) InputFault → Data → List Module → Type 0
GivesEnv (Ok env) d modules = (env ≡ modules) × AreSound modules
GivesEnv (Err NoMemory) d modules = Unit {0}
GivesEnv (Err (NotDeclarations what pointer)) d modules =
    ¬ AreSound modules × ((fault : Fault) × (slice_get (flat_map (told_in d) (faults_of modules)) 0 ≡ Some fault)
    × IsToldAs (NotDeclarations what pointer) fault)
