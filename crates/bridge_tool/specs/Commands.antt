-- The words of a command line, and the command that they ask for.
use Rattle.std.specs.Prelude.{◌≡◌, ◌^◌, ◌+◌, ◌-◌, ◌*◌, ◌&&◌, ℕ, Bool, true, false, List, [], ◌∷◌, map, codes, decimal, nat_le, nat_lt, string_bytes, String, Option, Some, None, option_and_then, option_map, if◌then◌else◌}
use Rattle.std.specs.Str.{bytes_eq}
use Rattle.std.specs.declared.alloc.Global.{Global}
use Rattle.bridge_tool.specs.declared.command.Command.{Command}
use Rattle.bridge_tool.specs.declared.command.Command.TheVariants.{Check, Explain, Generate, Links}

-- the command of a name
abbrev pub command_named : List ℕ → Option Command
command_named word = if bytes_eq word (codes "check") then Some Check else if bytes_eq word (codes "links") then Some Links else None

-- what digits write once n was written
abbrev pub digits_after : ℕ → List ℕ → ℕ
digits_after n [] = n
digits_after n (c ∷ word) = digits_after (n * 10 + (c - 48)) word

-- the number below 2^32 that the word is in decimal, without a sign or a leading zero
abbrev pub number_in : List ℕ → Option ℕ
number_in word = let n = digits_after 0 word in if nat_lt n (2 ^ 32) && bytes_eq (decimal n) word then Some n else None

-- `explain`, by the words after it
abbrev pub explaining : List ℕ → List ℕ → List ℕ → Option Command
explaining callable leaf number = option_map (λ n. Explain (record { callable = callable; leaf = leaf; lifetime = n })) (number_in number)

-- no more structs and functions are made
abbrev pub most_generated : ℕ
most_generated = 10000

-- `gen` for so many
abbrev pub generating_all : ℕ → Option Command
generating_all count = if nat_lt 0 count && nat_le count most_generated then Some (Generate count) else None

-- `gen`, by the word after it
abbrev pub generating : List ℕ → Option Command
generating number = option_and_then generating_all (number_in number)

-- that of all words: without any it is `check`
abbrev pub command_of : List (List ℕ) → Option Command
command_of [] = Some Check
command_of (word ∷ []) = command_named word
command_of (word ∷ number ∷ []) = if bytes_eq word (codes "gen") then generating number else None
command_of (word ∷ callable ∷ leaf ∷ number ∷ []) = if bytes_eq word (codes "explain") then explaining callable leaf number else None
command_of _ = None

-- whether a command is asked of the source's bytes: `gen` makes its own declarations
abbrev pub reads : Command → Bool
reads Check = true
reads (Explain question) = true
reads (Generate count) = false
reads Links = true

-- the words ask for the command
abbrev pub AskFor : List (String Global) → Command → Type 0
AskFor words command = command_of (map string_bytes words) ≡ Some command

-- the words ask for a command
abbrev pub AreCommand : List (String Global) → Type 0
AreCommand words = (command : Command) × AskFor words command

-- the words ask for a command that is asked of the source's bytes
abbrev pub AreReading : List (String Global) → Type 0
AreReading words = (command : Command) × AskFor words command × (reads command ≡ true)
