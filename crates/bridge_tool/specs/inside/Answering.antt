-- What the printing of an answer did to the sink, on the way to the status of a run.
use Rattle.std.specs.Prelude.{◌≡◌, ◌⊎◌, ℕ, List, Result, Ok, Err}
use Rattle.bridge_read.specs.declared.input.Input.{Input}
use Rattle.bridge_outside.specs.Outside.{Rose, SinkState}
use Rattle.bridge_outside.specs.declared.sink.SinkFault.{SinkFault}
use Rattle.bridge_outside.specs.declared.sink.SinkFault.TheVariants.{Failed, NoMemory}
use Rattle.bridge_printing.specs.Lines.{lines}
use Rattle.bridge_tool.specs.declared.status.Status.{Status}
use Rattle.bridge_tool.specs.declared.status.Status.TheVariants as status
use Rattle.bridge_tool.specs.Checking.{BreaksNothing, HasPage, IsRefusedWith}
use Rattle.hir_reports.specs.declared.report.LoweringReport.{LoweringReport}
use Rattle.bridge_tool.specs.Running.{FirstPart, WasTaken}

-- the status once a verdict was printed
abbrev pub ended_with : Status → Result (Unit {0}) SinkFault → Status
ended_with verdict (Ok done) = verdict
ended_with verdict (Err Failed) = status.WriteFailed
ended_with verdict (Err NoMemory) = status.NoMemory

-- the text that tells of declarations, by the status
abbrev pub TellsOf : Input → Status → List ℕ → Type 0
TellsOf input status.Accepted text = BreaksNothing input × HasPage input text
TellsOf input status.Refused text = (reports : List LoweringReport) × IsRefusedWith input reports × (text ≡ lines reports)
TellsOf input status.NotDeclarations text = ⊥
TellsOf input status.ReadFailed text = ⊥
TellsOf input status.WriteFailed text = ⊥
TellsOf input status.NoMemory text = ⊥
TellsOf input status.BadWords text = ⊥
TellsOf input status.TooLong text = ⊥

-- the sink took exactly a text of which P holds with this status
abbrev pub IsWhole : (Status → List ℕ → Type 0) → SinkState → SinkState → Status → Type 0
IsWhole P old new verdict = (text : List ℕ) × P verdict text × WasTaken old new text

-- what printing a text of which P holds did to the sink, by the status that it ends with
abbrev pub Printed : (Status → List ℕ → Type 0) → SinkState → SinkState → Status → Type 0
Printed P old new status.Accepted = IsWhole P old new status.Accepted
Printed P old new status.Refused = IsWhole P old new status.Refused
Printed P old new status.NotDeclarations = IsWhole P old new status.NotDeclarations
Printed P old new status.ReadFailed = ⊥
Printed P old new status.WriteFailed = Rose old.faults new.faults × FirstPart P old new
Printed P old new status.NoMemory = (new.taken ≡ old.taken) ⊎ FirstPart P old new
Printed P old new status.BadWords = IsWhole P old new status.BadWords
Printed P old new status.TooLong = ⊥
