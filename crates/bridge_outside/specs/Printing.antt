-- What printing to a sink leaves.
use Rattle.std.specs.Prelude.{◌≡◌, ◌≤◌, ℕ, zero, suc, List, [], ◌++◌, Option, Some, None, IsSome, IsNone, Result, OnOk, MatchResult, IsErrOf}
use Rattle.bridge_outside.specs.Outside.{Rose, SinkState, taken_with}
use Rattle.bridge_outside.specs.declared.sink.SinkFault.{SinkFault}
use Rattle.bridge_outside.specs.declared.sink.SinkFault.TheVariants.{Failed, NoMemory}

-- a printer: the bytes that it holds back, and the fault that it met
pub record Printing : Type 0 where
  pub held : List ℕ
  pub fault : Option SinkFault

-- a printer that begins
abbrev pub begins : Printing
begins = record { held = []; fault = None }

-- What it leaves to print a text: the sink and the printer before, and both after.
pub record Prints (old : SinkState) (out : Printing) (new : SinkState) (out' : Printing) (text : List ℕ) : Type 0 where
  -- of what was held and the text, this went to the sink
  pub sent : List ℕ
  pub rest : List ℕ
  pub parts : sent ++ rest ≡ out.held ++ text
  pub took : new.taken ≡ taken_with old.taken sent
  -- without a fault all the others are held now
  pub holds : IsNone out'.fault → rest ≡ out'.held
  -- after a fault nothing more happens
  pub stuck : IsSome out.fault → (out' ≡ out) × (new.taken ≡ old.taken) × (new.faults ≡ old.faults)
  pub steady : IsNone out'.fault → new.faults ≡ old.faults
  pub failed : out'.fault ≡ Some Failed → IsNone out.fault → Rose old.faults new.faults
  pub no_memory : out'.fault ≡ Some NoMemory → new.faults ≡ old.faults
  pub never_falls : old.faults ≤ new.faults

-- What it leaves to write a text to a sink, whole or up to a fault.
pub record Delivers {T : Type 0} (old new : SinkState) (text : List ℕ) (result : Result T SinkFault) : Type 0 where
  -- this part of the text went to the sink
  pub sent : List ℕ
  pub rest : List ℕ
  pub parts : sent ++ rest ≡ text
  pub took : new.taken ≡ taken_with old.taken sent
  -- without a fault it is the whole
  pub whole : OnOk result (sent ≡ text)
  pub steady : OnOk result (new.faults ≡ old.faults)
  pub failed : IsErrOf result Failed → Rose old.faults new.faults
  pub no_memory : IsErrOf result NoMemory → new.faults ≡ old.faults
  pub never_falls : old.faults ≤ new.faults

-- the answer at the end of printing: nothing is held back, or the fault
abbrev pub IsEndOf : {T : Type 0} → Printing → Result T SinkFault → Type 0
IsEndOf out result = MatchResult result (λ _. out ≡ begins) (λ fault. out.fault ≡ Some fault)

-- what stands before the piece at a place of a list: the separator, but for the first
abbrev pub separator_at : List ℕ → ℕ → List ℕ
separator_at separator zero = []
separator_at separator (suc place) = separator
