-- What a run of the program does to the outside, by the status that it ends with.
use Rattle.std.specs.Prelude.{◌≡◌, ◌≤◌, ◌<◌, ◌^◌, ◌⊎◌, ◌++◌, ℕ, List, [], length, Some, IfSome, String}
use Rattle.std.specs.declared.alloc.Global.{Global}
use Rattle.bridge_read.specs.declared.input.Input.{Input}
use Rattle.bridge_read.specs.Inputs.{SpellsInput}
use Rattle.bridge_measure.specs.Measured.{IsMeasuredAs}
use Rattle.bridge_outside.specs.Outside.{Rose, SinkState, SourceState, taken_with}
use Rattle.bridge_printing.specs.Lines.{lines}
use Rattle.bridge_explain.specs.Inquiry.{Inquiry as Question}
use Rattle.bridge_tool.specs.declared.status.Status.{Status}
use Rattle.bridge_tool.specs.declared.status.Status.TheVariants as status
use Rattle.bridge_tool.specs.Commands.{AreCommand, AreReading, AskFor}
use Rattle.bridge_tool.specs.Checking.{BreaksNothing, ExplainsNothing, HasExplanation, HasPage, IsRefusedWith}
use Rattle.bridge_tool.specs.Declining.{AreFaulty}
use Rattle.bridge_tool.specs.DocsPage.{docs_page}
use Rattle.bridge_tool.specs.declared.command.Command.{Command}
use Rattle.bridge_tool.specs.declared.command.Command.TheVariants.{Check, Explain, Generate, Links}
use Rattle.hir_reports.specs.declared.report.LoweringReport.{LoweringReport}
use Rattle.bridge_tool.specs.Statuses.{code_of}

-- The outside of a run: what its source and its sink show.
pub record World : Type 0 where
  pub source : SourceState
  pub sink : SinkState

abbrev pub world : SourceState → SinkState → World
world source sink = record { source = source; sink = sink }

-- The text that answers `check` with a status: 0, the page of the declarations of the input that the bytes spell, which break no rule; 1, the
-- lines of the reports on them, which break one; 2, the line that declines bytes that spell none.
abbrev pub AnswersCheck : List ℕ → Status → List ℕ → Type 0
AnswersCheck bytes status.Accepted text = (input : Input) × SpellsInput bytes input × BreaksNothing input × HasPage input text
AnswersCheck bytes status.Refused text =
    (input : Input) × (reports : List LoweringReport) × SpellsInput bytes input × IsRefusedWith input reports × (text ≡ lines reports)
AnswersCheck bytes status.NotDeclarations text = AreFaulty bytes text
AnswersCheck bytes status.ReadFailed text = ⊥
AnswersCheck bytes status.WriteFailed text = ⊥
AnswersCheck bytes status.NoMemory text = ⊥
AnswersCheck bytes status.BadWords text = ⊥
AnswersCheck bytes status.TooLong text = ⊥

-- The text that answers `links`: 0, the page of the links of the input that the bytes spell; 2, the line that declines bytes that spell none.
abbrev pub AnswersLinks : List ℕ → Status → List ℕ → Type 0
AnswersLinks bytes status.Accepted text = (input : Input) × SpellsInput bytes input × (text ≡ docs_page input)
AnswersLinks bytes status.Refused text = ⊥
AnswersLinks bytes status.NotDeclarations text = AreFaulty bytes text
AnswersLinks bytes status.ReadFailed text = ⊥
AnswersLinks bytes status.WriteFailed text = ⊥
AnswersLinks bytes status.NoMemory text = ⊥
AnswersLinks bytes status.BadWords text = ⊥
AnswersLinks bytes status.TooLong text = ⊥

-- The text that answers `explain`: 0, the line of a right explanation of what is asked about; 1 and 2, as for `check`; 6, none, where nothing
-- is asked about.
abbrev pub AnswersExplain : Question → List ℕ → Status → List ℕ → Type 0
AnswersExplain question bytes status.Accepted text = (input : Input) × SpellsInput bytes input × BreaksNothing input × HasExplanation input question text
AnswersExplain question bytes status.Refused text = AnswersCheck bytes status.Refused text
AnswersExplain question bytes status.NotDeclarations text = AreFaulty bytes text
AnswersExplain question bytes status.ReadFailed text = ⊥
AnswersExplain question bytes status.WriteFailed text = ⊥
AnswersExplain question bytes status.NoMemory text = ⊥
AnswersExplain question bytes status.BadWords text =
    (input : Input) × SpellsInput bytes input × BreaksNothing input × ExplainsNothing input question × (text ≡ [])
AnswersExplain question bytes status.TooLong text = ⊥

-- The text that answers `gen`: 0, the three lines that sum up as many made structs and functions.
abbrev pub AnswersGenerate : ℕ → Status → List ℕ → Type 0
AnswersGenerate count status.Accepted text = IsMeasuredAs count text
AnswersGenerate count status.Refused text = ⊥
AnswersGenerate count status.NotDeclarations text = ⊥
AnswersGenerate count status.ReadFailed text = ⊥
AnswersGenerate count status.WriteFailed text = ⊥
AnswersGenerate count status.NoMemory text = ⊥
AnswersGenerate count status.BadWords text = ⊥
AnswersGenerate count status.TooLong text = ⊥

-- The text that answers a command.
abbrev pub Answers : Command → List ℕ → Status → List ℕ → Type 0
Answers Check bytes = AnswersCheck bytes
Answers (Explain question) bytes = AnswersExplain question bytes
Answers (Generate count) bytes = AnswersGenerate count
Answers Links bytes = AnswersLinks bytes

-- These are all the bytes that the source had, at most 2^26; no read failed, and it has none left.
pub record WereRead (old new : SourceState) (bytes : List ℕ) : Type 0 where
  pub all : IfSome old.left (λ had. bytes ≡ had)
  pub short : length bytes ≤ 2 ^ 26
  pub none_left : IfSome old.left (λ had. new.left ≡ Some [])
  pub no_fault : new.faults ≡ old.faults

-- These bytes were read for a command. For `gen` nothing is read.
abbrev pub WereReadFor : Command → SourceState → SourceState → List ℕ → Type 0
WereReadFor Check old new bytes = WereRead old new bytes
WereReadFor (Explain question) old new bytes = WereRead old new bytes
WereReadFor (Generate count) old new bytes = new ≡ old
WereReadFor Links old new bytes = WereRead old new bytes

-- The source had more than 2^26 bytes, where it tells them, and no read failed.
pub record IsTooLong (old new : SourceState) : Type 0 where
  pub long : IfSome old.left (λ had. 2 ^ 26 < length had)
  pub no_fault : new.faults ≡ old.faults

-- The sink took this text, nothing before and nothing after, and no write failed.
pub record WasTaken (old new : SinkState) (text : List ℕ) : Type 0 where
  pub taken : new.taken ≡ taken_with old.taken text
  pub no_fault : new.faults ≡ old.faults

-- The sink took nothing, and no write failed.
pub record NothingTaken (old new : SinkState) : Type 0 where
  pub taken : new.taken ≡ old.taken
  pub no_fault : new.faults ≡ old.faults

-- The sink took a first part of a text of which P holds, with some status.
pub record FirstPart (P : Status → List ℕ → Type 0) (old new : SinkState) : Type 0 where
  pub status : Status
  pub text : List ℕ
  pub of : P status text
  pub sent : List ℕ
  pub rest : List ℕ
  pub parts : sent ++ rest ≡ text
  pub took : new.taken ≡ taken_with old.taken sent

-- All was read for the command, and the sink took exactly the text that answers it with this status.
abbrev pub IsAnswered : Command → World → World → Status → Type 0
IsAnswered command old new status =
    (bytes : List ℕ) × WereReadFor command old.source new.source bytes
    × ((text : List ℕ) × Answers command bytes status text × WasTaken old.sink new.sink text)

-- All was read for the command, and the sink took a first part of a text that answers it.
abbrev pub IsCutShort : Command → World → World → Type 0
IsCutShort command old new =
    (bytes : List ℕ) × WereReadFor command old.source new.source bytes × FirstPart (Answers command bytes) old.sink new.sink

-- The words ask for a command of which P holds.
abbrev pub Asked : List (String Global) → (Command → Type 0) → Type 0
Asked words P = (command : Command) × AskFor words command × P command

-- THE TABLE OF STATUSES: what each says of the words, and of the outside before and after the run.
abbrev pub Says : List (String Global) → World → World → Status → Type 0
Says words old new status.Accepted = Asked words (λ command. IsAnswered command old new status.Accepted)
Says words old new status.Refused = Asked words (λ command. IsAnswered command old new status.Refused)
Says words old new status.NotDeclarations = Asked words (λ command. IsAnswered command old new status.NotDeclarations)
Says words old new status.ReadFailed = AreReading words × Rose old.source.faults new.source.faults × NothingTaken old.sink new.sink
Says words old new status.WriteFailed = Asked words (λ command. Rose old.sink.faults new.sink.faults × IsCutShort command old new)
Says words old new status.NoMemory = Asked words (λ command. (new.sink.taken ≡ old.sink.taken) ⊎ IsCutShort command old new)
Says words old new status.BadWords = (¬ (AreCommand words) × (new ≡ old)) ⊎ Asked words (λ command. IsAnswered command old new status.BadWords)
Says words old new status.TooLong = AreReading words × IsTooLong old.source new.source × NothingTaken old.sink new.sink

-- the run ended with the number of a status, and what this status says is so
abbrev pub Ran : List (String Global) → World → World → ℕ → Type 0
Ran words old new code = (status : Status) × (code ≡ code_of status) × Says words old new status
