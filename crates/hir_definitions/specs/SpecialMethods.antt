-- Methods that are more than methods.
use Rattle.std.specs.Prelude.{None, false}
use Rattle.hir_definitions.specs.declared.special.SpecialMethodPresence.{SpecialMethodPresence}

-- none is
abbrev pub no_special_methods : SpecialMethodPresence
no_special_methods = record { comparator = false; optional_comparator = false; iterator = None; iterable = None }
