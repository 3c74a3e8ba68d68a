-- How much a command makes.
use Rattle.std.specs.Prelude.{◌≤◌, ⊤}
use Rattle.bridge_tool.specs.Commands.{most_generated}
use Rattle.bridge_tool.specs.declared.command.Command.{Command}
use Rattle.bridge_tool.specs.declared.command.Command.TheVariants.{Check, Explain, Generate, Links}

-- what a command makes has from 1 to 10,000 structs, and as many functions
abbrev pub IsWithin : Command → Type 0
IsWithin Check = ⊤
IsWithin (Explain question) = ⊤
IsWithin (Generate count) = (1 ≤ count) × (count ≤ most_generated)
IsWithin Links = ⊤
