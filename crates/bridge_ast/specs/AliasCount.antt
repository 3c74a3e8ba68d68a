-- How many aliases modules have.
use Rattle.std.specs.Prelude.{ℕ, List, length, sum_by}
use Rattle.bridge_decl.specs.declared.modules.Module.{Module}

-- the number of aliases in modules
abbrev pub alias_count : List Module → ℕ
alias_count modules = sum_by (λ m. length m.aliases) modules
