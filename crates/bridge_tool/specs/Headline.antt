-- The headline: what a run that nothing disturbs answers to declarations. And completeness: what settles its status.
use Rattle.std.specs.Prelude.{◌≡◌, ◌≢◌, ◌≤◌, ◌<◌, ◌^◌, ◌⊎◌, ◌↔◌, ℕ, List, [], Some, String, length}
use Rattle.std.specs.declared.alloc.Global.{Global}
use Rattle.bridge_outside.specs.Outside.{Rose, taken_with}
use Rattle.bridge_printing.specs.Lines.{lines}
use Rattle.bridge_explain.specs.Inquiry.{Inquiry as Question}
use Rattle.hir_reports.specs.declared.report.LoweringReport.{LoweringReport}
use Rattle.bridge_read.specs.declared.input.Input.{Input}
use Rattle.bridge_read.specs.Inputs.{SpellsInput}
use Rattle.bridge_tool.specs.Commands.{AskFor}
use Rattle.bridge_tool.specs.Checking.{BreaksNothing, ExplainsNothing, HasPage, IsRefusedWith}
use Rattle.bridge_tool.specs.Running.{World}
use Rattle.bridge_tool.specs.declared.command.Command.{Command}
use Rattle.bridge_tool.specs.declared.command.Command.TheVariants.{Check, Explain, Generate, Links}

-- The words ask for the command, the source tells these bytes, and no count of faults rises or stands at the last value of its type.
pub record IsUndisturbed (words : List (String Global)) (asked : Command) (old new : World) (had : List ℕ) : Type 0 where
  pub command : AskFor words asked
  pub told : old.source.left ≡ Some had
  pub no_read_failed : ¬ (Rose old.source.faults new.source.faults)
  pub no_write_failed : ¬ (Rose old.sink.faults new.sink.faults)

-- What the program does with the input that its source spells.
pub record AnswersInput (input : Input) (old new : World) (code : ℕ) : Type 0 where
  -- it ends with 0 exactly where no declaration breaks a rule
  pub accepts : (code ≡ 0) ↔ BreaksNothing input
  -- and prints their page, nothing before and nothing after
  pub page : code ≡ 0 → (text : List ℕ) × HasPage input text × (new.sink.taken ≡ taken_with old.sink.taken text)
  -- otherwise it ends with 1
  pub refuses : code ≢ 0 → code ≡ 1
  -- and prints the lines of reports, each of a broken rule and its declaration, with one at each broken place
  pub reports : code ≡ 1 → (reports : List LoweringReport) × IsRefusedWith input reports × (new.sink.taken ≡ taken_with old.sink.taken (lines reports))
  -- the source has no bytes left
  pub none_left : new.source.left ≡ Some []

-- THE HEADLINE: so it does for `check`, where nothing disturbs it, the source's bytes are at most 2^26 and spell an input,
-- and memory suffices.
abbrev pub Headline : List (String Global) → World → World → ℕ → Type 0
Headline words old new code = (had : List ℕ) (input : Input) → IsUndisturbed words Check old new had → length had ≤ 2 ^ 26 → SpellsInput had input
    → code ≢ 5 → AnswersInput input old new code

-- What the bytes of the source say of the status of `check`: each of 0, 1, 2 and 7 comes exactly where its row is so.
pub record SettlesCheck (had : List ℕ) (code : ℕ) : Type 0 where
  pub accepted : (code ≡ 0) ↔ ((length had ≤ 2 ^ 26) × ((input : Input) × SpellsInput had input × BreaksNothing input))
  pub refused : (code ≡ 1) ↔ ((length had ≤ 2 ^ 26) × ((input : Input) × SpellsInput had input × (¬ (BreaksNothing input))))
  pub declined : (code ≡ 2) ↔ ((length had ≤ 2 ^ 26) × ((input : Input) → ¬ (SpellsInput had input)))
  pub too_long : (code ≡ 7) ↔ (2 ^ 26 < length had)

-- What they say of that of `links`, which tests no rule.
pub record SettlesLinks (had : List ℕ) (code : ℕ) : Type 0 where
  pub accepted : (code ≡ 0) ↔ ((length had ≤ 2 ^ 26) × ((input : Input) × SpellsInput had input))
  pub never_refused : code ≢ 1
  pub declined : (code ≡ 2) ↔ ((length had ≤ 2 ^ 26) × ((input : Input) → ¬ (SpellsInput had input)))
  pub too_long : (code ≡ 7) ↔ (2 ^ 26 < length had)

-- What they say of that of `explain`: 0 and 6 share what `check` accepts, by whether something is asked about.
pub record SettlesExplain (question : Question) (had : List ℕ) (code : ℕ) : Type 0 where
  pub accepted :
      (code ≡ 0) ↔ ((length had ≤ 2 ^ 26) × ((input : Input) × SpellsInput had input × BreaksNothing input × (¬ (ExplainsNothing input question))))
  pub refused : (code ≡ 1) ↔ ((length had ≤ 2 ^ 26) × ((input : Input) × SpellsInput had input × (¬ (BreaksNothing input))))
  pub declined : (code ≡ 2) ↔ ((length had ≤ 2 ^ 26) × ((input : Input) → ¬ (SpellsInput had input)))
  pub nothing : (code ≡ 6) ↔ ((length had ≤ 2 ^ 26) × ((input : Input) × SpellsInput had input × BreaksNothing input × ExplainsNothing input question))
  pub too_long : (code ≡ 7) ↔ (2 ^ 26 < length had)

abbrev pub Settles : Command → List ℕ → ℕ → Type 0
Settles Check had code = SettlesCheck had code
Settles (Explain question) had code = SettlesExplain question had code
Settles (Generate count) had code = code ≡ 0
Settles Links had code = SettlesLinks had code

-- COMPLETENESS, but for want of memory.
pub record IsComplete (words : List (String Global)) (old new : World) (code : ℕ) : Type 0 where
  -- where nothing disturbs a command, the source's bytes settle the status
  pub settled : (had : List ℕ) (command : Command) → IsUndisturbed words command old new had → (code ≡ 5) ⊎ Settles command had code
  -- `gen` ends with 0 whatever the source is, where no write fails
  pub generated : (count : ℕ) → AskFor words (Generate count) → ¬ (Rose old.sink.faults new.sink.faults) → (code ≡ 5) ⊎ (code ≡ 0)
