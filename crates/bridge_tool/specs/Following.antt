-- What follows from the table of statuses, for the number that a run ends with.
use Rattle.std.specs.Prelude.{◌≡◌, ◌≢◌, ◌≤◌, ◌<◌, ◌^◌, ◌⊎◌, ℕ, List, String, IfSome, length}
use Rattle.std.specs.declared.alloc.Global.{Global}
use Rattle.bridge_outside.specs.Outside.{Rose}
use Rattle.bridge_tool.specs.declared.status.Status.TheVariants as status
use Rattle.bridge_tool.specs.Commands.{AreCommand, AskFor}
use Rattle.bridge_tool.specs.declared.command.Command.TheVariants.{Generate}
use Rattle.bridge_tool.specs.Running.{World, Asked, IsAnswered, IsCutShort}

-- What follows, number by number.
pub record Follows (words : List (String Global)) (old new : World) (code : ℕ) : Type 0 where
  pub accepted : code ≡ 0 → Asked words (λ command. IsAnswered command old new status.Accepted)
  pub refused : code ≡ 1 → Asked words (λ command. IsAnswered command old new status.Refused)
  pub declined : code ≡ 2 → Asked words (λ command. IsAnswered command old new status.NotDeclarations)
  pub read_failed : code ≡ 3 → Rose old.source.faults new.source.faults
  pub write_failed : code ≡ 4 → Rose old.sink.faults new.sink.faults
  -- 4 and 5: the sink took nothing, or a first part of a text that answers the bytes with another status
  pub cut_short : (code ≡ 4) ⊎ (code ≡ 5) → Asked words (λ command. (new.sink.taken ≡ old.sink.taken) ⊎ IsCutShort command old new)
  -- 6 comes where the words are no command, and where `explain` asks about nothing
  pub no_command : ¬ (AreCommand words) → code ≡ 6
  pub bad_words : code ≡ 6 → ¬ (AreCommand words) ⊎ Asked words (λ command. IsAnswered command old new status.BadWords)
  pub too_long : code ≡ 7 → IfSome old.source.left (λ had. 2 ^ 26 < length had)
  -- only a failed read, or want of memory, leaves the source's count of faults raised, and likewise for the sink
  pub reads_steady : code ≢ 3 → code ≢ 5 → new.source.faults ≡ old.source.faults
  pub writes_steady : code ≢ 4 → code ≢ 5 → new.sink.faults ≡ old.sink.faults
  -- with 3, 6 and 7 nothing is written
  pub unwritten : (code ≡ 3) ⊎ (code ≡ 6) ⊎ (code ≡ 7) → new.sink.taken ≡ old.sink.taken
  -- `gen` refuses nothing, and no read fails for it
  pub generated : (count : ℕ) → AskFor words (Generate count) → (code ≡ 0) ⊎ (code ≡ 4) ⊎ (code ≡ 5)
  pub at_most_seven : code ≤ 7
