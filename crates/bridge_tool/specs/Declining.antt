-- Why bytes are declined, and the line that says so.
use Rattle.std.specs.Prelude.{◌≡◌, ℕ, List, [], ◌++◌, codes}
use Rattle.bridge_form.specs.declared.fault.InputKind.{InputKind}
use Rattle.bridge_form.specs.declared.fault.InputKind.TheVariants.{NotJson}
use Rattle.bridge_read.specs.declared.input.Input.{Input}
use Rattle.bridge_read.specs.declared.input.InputFault.TheVariants.{NotDeclarations}
use Rattle.bridge_read.specs.Inputs.{IsToldOf, SpellsInput}
use Rattle.bridge_form.specs.KindTexts.{kind_text}

abbrev pub at_pointer : List ℕ → List ℕ
at_pointer pointer = codes " at \"" ++ (pointer ++ codes "\"")

-- where a fault stands; that the bytes are no JSON text stands nowhere in them
abbrev pub fault_place : InputKind → List ℕ → List ℕ
fault_place NotJson pointer = []
fault_place what pointer = at_pointer pointer

-- the line of a fault at a pointer
abbrev pub fault_line : InputKind → List ℕ → List ℕ
fault_line what pointer = codes "input: " ++ (kind_text what ++ (fault_place what pointer ++ codes "\n"))

-- the bytes spell no input, and this is told of them
pub record IsFaultOf (bytes : List ℕ) (what : InputKind) (pointer : List ℕ) : Type 0 where
  pub nothing : (input : Input) → ¬ (SpellsInput bytes input)
  pub told : IsToldOf bytes (NotDeclarations what pointer)

-- the bytes spell no input, and the line tells their first fault
pub record AreFaulty (bytes line : List ℕ) : Type 0 where
  pub what : InputKind
  pub pointer : List ℕ
  pub fault : IsFaultOf bytes what pointer
  pub is : line ≡ fault_line what pointer
