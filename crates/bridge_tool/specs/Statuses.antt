-- The numbers of the ways in which a run ends.
use Rattle.std.specs.Prelude.{ℕ}
use Rattle.bridge_tool.specs.declared.status.Status.{Status}
use Rattle.bridge_tool.specs.declared.status.Status.TheVariants as status

abbrev pub code_of : Status → ℕ
code_of status.Accepted = 0
code_of status.Refused = 1
code_of status.NotDeclarations = 2
code_of status.ReadFailed = 3
code_of status.WriteFailed = 4
code_of status.NoMemory = 5
code_of status.BadWords = 6
code_of status.TooLong = 7
