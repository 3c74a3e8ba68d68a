-- A use noted at one place.
use Rattle.std.specs.Prelude.{ℕ, List, Option, Some, None, option_map, slice_get, slice_set}
use Rattle.hir_definitions.specs.declared.usage.TypingUseInfo.{TypingUseInfo}

-- the list with this at the place, where there is anything to put there
abbrev pub set_some : {A : Type 0} → ℕ → List A → Option A → List A
set_some place xs None = xs
set_some place xs (Some x) = slice_set xs place x

-- the definition at a place, used so, where there is one
abbrev pub used_at : {D : Type 0} → (TypingUseInfo → D → D) → ℕ → TypingUseInfo → List D → List D
used_at note place usage defs = set_some place defs (option_map (note usage) (slice_get defs place))
