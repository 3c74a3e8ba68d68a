-- Which bytes spell which input, and why bytes spell none.
use Rattle.std.specs.Prelude.{IsUtf8, ◌≡◌, ℕ, List, [], ◌∷◌, ◌⊎◌, slice_get, Some, Result, Ok, Err}
use Rattle.std.specs.List.{flat_map}
use Rattle.serde_json.specs.Data.{Data}
use Rattle.serde_json.specs.Read.{read}
use Rattle.bridge_ast.specs.EnvFaults.{faults_of}
use Rattle.bridge_ast.specs.Sound.{AreSound}
use Rattle.bridge_ast.specs.declared.fault.EnvFault.{EnvFault}
use Rattle.bridge_ast.specs.declared.fault.EnvFault.TheVariants.{Bad, NoMemory as no_env_memory}
use Rattle.bridge_ast.specs.declared.fault.EnvFaultKind.{EnvFaultKind}
use Rattle.bridge_ast.specs.declared.fault.EnvFaultKind.TheVariants as env
use Rattle.bridge_form.specs.declared.fault.Fault.{Fault}
use Rattle.bridge_form.specs.declared.fault.InputKind.{InputKind}
use Rattle.bridge_form.specs.declared.fault.InputKind.TheVariants as kind
use Rattle.bridge_read.specs.declared.input.Declared.{Declared}
use Rattle.bridge_ast.specs.declared.fault.EnvPlace.{EnvPlace}
use Rattle.bridge_read.specs.declared.input.Input.{Input}
use Rattle.bridge_read.specs.declared.input.InputFault.{InputFault}
use Rattle.bridge_read.specs.declared.input.InputFault.TheVariants.{NotDeclarations, NoMemory}
use Rattle.bridge_form.specs.Reading.{here}
use Rattle.bridge_form.specs.PointerTexts.{pointer_text}
use Rattle.bridge_pointers.specs.Pointers.{module_pointers, place_steps}
use Rattle.bridge_read.specs.forms.Inputs.{declared_of, whole}

-- the bytes are a JSON text (RFC 8259) in UTF-8 that nests at most 127 deep and whose numbers are within a 64-bit float's range,
-- and its value is d
pub record IsJsonOf (bytes : List ℕ) (d : Data) : Type 0 where
  pub utf8 : IsUtf8 bytes
  pub value : read bytes ≡ Some d

-- the bytes are such a text
abbrev pub IsJson : List ℕ → Type 0
IsJson bytes = (d : Data) × IsJsonOf bytes d

-- the bytes spell the input: their value has the form, and the modules fit together
pub record SpellsInput (bytes : List ℕ) (input : Input) : Type 0 where
  pub value : Data
  pub json : IsJsonOf bytes value
  pub form : whole.Spells value (declared_of input.env input.validator input.config input.urls)
  pub sound : AreSound input.env

-- ---- faults

-- the kind of a fault between declarations. No module of an input lacks its parent: see Parents
abbrev pub kind_of : EnvFaultKind → InputKind
kind_of env.DuplicateModule = kind.DuplicateModule
kind_of env.ParentMissing = kind.WrongForm
kind_of env.DuplicateItem = kind.DuplicateItem
kind_of env.DuplicateLifetime = kind.DuplicateLifetime
kind_of env.BoundOutOfRange = kind.BoundOutOfRange
kind_of env.BoundOneSided = kind.BoundOneSided

-- a fault of a kind at a place of the modules that the value declares, as one of the value
abbrev pub declared_fault : Data → EnvFaultKind → EnvPlace → Fault
declared_fault d what at = record { kind = kind_of what; at = place_steps (module_pointers d) at }

abbrev pub told_in : Data → EnvFault → List Fault
told_in d (Bad what at other) = declared_fault d what at ∷ []
told_in d no_env_memory = []

-- the faults between the declarations that a value spells, in order
abbrev pub faults_between : Data → Declared → List Fault
faults_between d declared = flat_map (told_in d) (faults_of declared.modules)

-- the value has the form, and the fault is the first between its declarations
pub record IsFirstBetween (d : Data) (fault : Fault) : Type 0 where
  pub declared : Declared
  pub form : whole.Spells d declared
  pub first : slice_get (faults_between d declared) 0 ≡ Some fault

-- the fault is the value's first: that of its form, or, where it has the form, that between its declarations
abbrev pub IsFirstOf : Data → Fault → Type 0
IsFirstOf d fault = (slice_get (whole.faults d) 0 ≡ Some fault) ⊎ IsFirstBetween d fault

-- ---- what is told

-- the fault is told: its kind, and the text of its pointer; want of memory tells nothing
abbrev pub IsToldAs : InputFault → Fault → Type 0
IsToldAs (NotDeclarations what pointer) fault = (what ≡ fault.kind) × (pointer ≡ pointer_text fault.at)
IsToldAs NoMemory fault = Unit {0}

-- the bytes are no JSON text, and that is told at the whole
pub record IsNone (bytes : List ℕ) (told : InputFault) : Type 0 where
  pub none : ¬ IsJson bytes
  pub tells : IsToldAs told (here kind.NotJson)

-- the bytes are a JSON text, and the first fault of its value is told
pub record IsFirstFault (bytes : List ℕ) (told : InputFault) : Type 0 where
  pub value : Data
  pub json : IsJsonOf bytes value
  pub fault : Fault
  pub first : IsFirstOf value fault
  pub tells : IsToldAs told fault

-- what is told of bytes that spell no input
abbrev pub IsToldOf : List ℕ → InputFault → Type 0
IsToldOf bytes (NotDeclarations what pointer) =
    IsNone bytes (NotDeclarations what pointer) ⊎ IsFirstFault bytes (NotDeclarations what pointer)
IsToldOf bytes NoMemory = Unit {0}

-- ---- what reading answers

-- the input is read, unless memory ran out
abbrev pub IsReadAs : Result Input InputFault → Input → Type 0
IsReadAs (Ok read) input = read ≡ input
IsReadAs (Err NoMemory) input = Unit {0}
IsReadAs (Err (NotDeclarations what pointer)) input = ⊥

-- bytes of which that is told spell no input; want of memory says nothing of them
abbrev pub Refuses : List ℕ → InputFault → Type 0
Refuses bytes (NotDeclarations what pointer) = (input : Input) → ¬ SpellsInput bytes input
Refuses bytes NoMemory = Unit {0}
