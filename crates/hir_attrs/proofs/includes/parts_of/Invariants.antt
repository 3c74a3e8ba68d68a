use Rattle.std.proofs.Common.{◌≡◌, Some, drop}
use Rattle.hir_attrs.specs.Includes.{no_parts, parts_from}
use Rattle.hir_attrs.proofs.includes.parts_of.Given as goal

abbrev pub invariant-loop-assign : goal.invariant-loop-assign
invariant-loop-assign l = parts_from (Some no_parts) l.assigns ≡ parts_from l.parts (drop l.assign-index l.assigns)
