-- How types are used.
use Rattle.std.specs.Prelude.{[], false}
use Rattle.hir_definitions.specs.declared.usage.TypingUseInfo.{TypingUseInfo}

-- by itself alone
abbrev pub unused : TypingUseInfo
unused = record { sliced = false; optioned = false; results = [] }
