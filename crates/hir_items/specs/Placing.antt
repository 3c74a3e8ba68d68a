-- Errors as reports, at an item or at a method of it.
use Rattle.std.specs.Prelude.{ℕ, List, [], ◌∷◌, map, Option, Some, None, if◌then◌else◌}
use Rattle.hir_attrs.specs.declared.attrs.Attrs.{Attrs}
use Rattle.hir_reports.specs.Store.{at_place, told_at}
use Rattle.hir_reports.specs.declared.report.LoweringError.{LoweringError}
use Rattle.hir_reports.specs.declared.report.LoweringReport.{LoweringReport}

-- at the item of that name in the module of the path, and at no method of it
abbrev pub at_item_itself : List (List ℕ) → List ℕ → List LoweringError → List LoweringReport
at_item_itself path item errors = map (told_at (at_place path item None)) errors

-- at the method of that name of the item
abbrev pub at_method_of : List (List ℕ) → List ℕ → List ℕ → List LoweringError → List LoweringReport
at_method_of path item method errors = map (told_at (at_place path item (Some method))) errors

-- what is told of what has these marks, where it isn't disabled
abbrev pub where_enabled : {A : Type 0} → Attrs → List A → List A
where_enabled marks told = if marks.disable then [] else told

-- what there is where nothing is reported
abbrev pub unless_reported : {A : Type 0} → List LoweringReport → Option A → Option A
unless_reported [] form = form
unless_reported (r ∷ rs) form = None
