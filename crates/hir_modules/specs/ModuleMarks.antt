-- The marks of modules: those of each start from those of the module around it, and those of the root from none.
use Rattle.std.specs.Prelude.{ℕ, List, [], ◌∷◌, ◌++◌, map, slice_get, Option, Some, None}
use Rattle.std.specs.List.{flat_map}
use Rattle.bridge_ast.specs.EnvFaults.{module_at}
use Rattle.bridge_decl.specs.declared.modules.Module.{Module}
use Rattle.bridge_order.specs.Order.{module_order, of_found}
use Rattle.hir_attrs.specs.Attrs.{empty_attrs}
use Rattle.hir_attrs.specs.Reading.{marks_errors, marks_of}
use Rattle.hir_attrs.specs.declared.attrs.Attrs.{Attrs}
use Rattle.hir_backends.specs.Backend.{Backend}
use Rattle.hir_reports.specs.Store.{at_place, told_at}
use Rattle.hir_reports.specs.declared.report.LoweringError.{LoweringError}
use Rattle.hir_reports.specs.declared.report.LoweringReport.{LoweringReport}

-- the module of a path, where there is one
abbrev pub numbered_module : List Module → Option ℕ → Option Module
numbered_module modules None = None
numbered_module modules (Some n) = slice_get modules n

abbrev pub module_with_path : List Module → List (List ℕ) → Option Module
module_with_path modules path = numbered_module modules (module_at modules path)

-- what a module makes of the marks around it: its own, which start from them
abbrev pub own_marks : Backend → Option Module → Attrs → Attrs
own_marks backend None around = around
own_marks backend (Some m) around = marks_of backend m.attrs around

-- the marks along the rest of a path, of which so much was gone along and so many marks were met
abbrev pub marks_along : Backend → List Module → List (List ℕ) → Attrs → List (List ℕ) → Attrs
marks_along backend modules gone met [] = met
marks_along backend modules gone met (name ∷ rest) =
    marks_along backend modules (gone ++ name ∷ []) (own_marks backend (module_with_path modules gone) met) rest

-- the marks around a module: those of the root, and then of each module on the way to it
abbrev pub marks_around : Backend → List Module → List (List ℕ) → Attrs
marks_around backend modules path = marks_along backend modules [] empty_attrs path

-- the marks of a module
abbrev pub module_marks : Backend → List Module → Module → Attrs
module_marks backend modules m = marks_of backend m.attrs (marks_around backend modules m.path)

-- which rules the marks of a module break, as reports at it
abbrev pub module_reports : Backend → List Module → Module → List LoweringReport
module_reports backend modules m =
    map (told_at (at_place m.path [] None)) (marks_errors backend m.attrs (marks_around backend modules m.path))

-- the reports of the module of a number, and of all modules in the order in which they are gone through
abbrev pub numbered_reports : Backend → List Module → ℕ → List LoweringReport
numbered_reports backend modules n = of_found (module_reports backend modules) (slice_get modules n)

abbrev pub all_module_reports : Backend → List Module → List LoweringReport
all_module_reports backend modules = flat_map (numbered_reports backend modules) (module_order modules)
