use Rattle.std.proofs.Common.{◌≡◌, ◌++◌, take}
use Rattle.std.specs.List.{flat_map}
use Rattle.hir_modules.specs.ModuleMarks.{numbered_reports}
use Rattle.hir_modules.specs.inside.Walk.{AreRead}
use Rattle.hir_modules.proofs.modules.lower_modules.Given as goal

-- the modules of the numbers so far are read, and what their marks break is told
abbrev pub invariant-loop-number : goal.invariant-loop-number
invariant-loop-number g l =
    AreRead (g.V.AttributeValidator.meaning l.validator) l.env l.marks.items (take l.number-index l.number-items)
    × (l.errors.reports ≡ l.fn.errors.reports ++ flat_map (numbered_reports (g.V.AttributeValidator.meaning l.validator) l.env) (take l.number-index l.number-items))
