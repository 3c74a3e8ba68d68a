-- Faults that are told.
use Rattle.std.specs.Prelude.{◌↔◌, List}
use Rattle.std.specs.List.{Contains}
use Rattle.bridge_grid.specs.declared.fault.TypeFault.{TypeFault}

-- a list tells what is said of faults, and nothing else
abbrev pub AreExactly : List TypeFault → (TypeFault → Type 0) → Type 0
AreExactly faults Breaks = (f : TypeFault) → Contains faults f ↔ Breaks f
