-- A list of reports that grows, with the place of the next.
use Rattle.std.specs.Prelude.{◌≡◌, ℕ, List, [], ◌∷◌, ◌++◌, map, Option, Some, None}
use Rattle.hir_reports.specs.declared.report.LoweringError.{LoweringError}
use Rattle.hir_reports.specs.declared.report.LoweringReport.{LoweringReport}
use Rattle.hir_reports.specs.declared.places.ErrorContext.{ErrorContext}

-- the reports so far, and the place of the next
pub record Held : Type 0 where
  pub reports : List LoweringReport
  pub place : ErrorContext

-- the path of a module, the name of an item in it, and that of a method of the item
abbrev pub at_place : List (List ℕ) → List ℕ → Option (List ℕ) → ErrorContext
at_place path item subitem = record { «module» = path; item = item; subitem = subitem }

-- the store that has no reports; its place is the root
abbrev pub nowhere : Held
nowhere = record { reports = []; place = at_place [] [] None }

-- the same reports, at a module
abbrev pub at_module : Held → List (List ℕ) → Held
at_module held path = record { reports = held.reports; place = at_place path [] None }

-- the same reports, at an item of the module
abbrev pub at_item : Held → List ℕ → Held
at_item held name = record { reports = held.reports; place = at_place held.place.«module» name None }

-- the same reports, at a method of the item, or at the item itself
abbrev pub at_subitem : Held → Option (List ℕ) → Held
at_subitem held name = record { reports = held.reports; place = at_place held.place.«module» held.place.item name }

-- an error at a place, as a report
abbrev pub told_at : ErrorContext → LoweringError → LoweringReport
told_at place error = record { error = error; context = place }

-- the reports and one more, at the place
abbrev pub gained : Held → LoweringError → Held
gained held error = record { reports = held.reports ++ told_at held.place error ∷ []; place = held.place }

-- the reports and these, in order, each at the place
abbrev pub added : Held → List LoweringError → Held
added held errors = record { reports = held.reports ++ map (told_at held.place) errors; place = held.place }

-- the first reports are those of before, and the place is the same
pub record Keeps (old new : Held) : Type 0 where
  pub more : List LoweringReport
  pub reports : new.reports ≡ old.reports ++ more
  pub place : new.place ≡ old.place
