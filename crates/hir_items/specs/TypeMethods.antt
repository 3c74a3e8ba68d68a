-- The methods of a type: what is told of each at its own place, and what they are lowered to.
use Rattle.std.specs.Prelude.{ℕ, List, [], ◌++◌, map, filter, Bool, not, Option, Some, if◌then◌else◌}
use Rattle.std.specs.List.{flat_map}
use Rattle.bridge_ast.specs.declared.place.ItemPlace.{ItemPlace}
use Rattle.bridge_decl.specs.declared.methods.Method.{Method as DeclaredMethod}
use Rattle.hir_attrs.specs.Reading.{marks_of}
use Rattle.hir_attrs.specs.declared.attrs.Attrs.{Attrs}
use Rattle.hir_backends.specs.Backend.{Backend}
use Rattle.hir_definitions.specs.declared.methods.Method.{Method}
use Rattle.hir_form.specs.ParamForms.{all_given}
use Rattle.hir_methods.specs.Methods.{method_errors, method_form}
use Rattle.hir_reports.specs.declared.report.LoweringReport.{LoweringReport}
use Rattle.hir_special.specs.Repeated.{none_seen}
use Rattle.hir_items.specs.Inheriting.{method_start}
use Rattle.hir_items.specs.Placing.{at_method_of, where_enabled}
use Rattle.hir_items.specs.Repeated.{repeated_reports}
use Rattle.hir_items.specs.Setting.{Setting}

-- what is told of a method of the item of that name at the place, at the method
abbrev pub method_reports : Setting → List (List ℕ) → List ℕ → ItemPlace → Attrs → DeclaredMethod → List LoweringReport
method_reports s path item place module_set method =
    at_method_of path item method.name (method_errors s.backend s.support s.config s.catalog s.names place (method_start module_set) method)

-- each method by itself, in order
abbrev pub each_method_reports : Setting → List (List ℕ) → List ℕ → ItemPlace → Attrs → List DeclaredMethod → List LoweringReport
each_method_reports s path item place module_set methods = flat_map (method_reports s path item place module_set) methods

-- of an enabled type: each method by itself, and then those that stand once and stand there before
abbrev pub all_method_reports : Setting → List (List ℕ) → List ℕ → ItemPlace → Attrs → List DeclaredMethod → List LoweringReport
all_method_reports s path item place module_set methods =
    each_method_reports s path item place module_set methods ++ repeated_reports s.backend s.support path item module_set none_seen methods

-- of a type with these marks: of a disabled one nothing is told of its methods
abbrev pub type_method_reports : Setting → List (List ℕ) → List ℕ → ItemPlace → Attrs → Attrs → List DeclaredMethod → List LoweringReport
type_method_reports s path item place module_set marks methods = where_enabled marks (all_method_reports s path item place module_set methods)

-- whether a method is enabled
abbrev pub is_enabled_method : Backend → Attrs → DeclaredMethod → Bool
is_enabled_method backend module_set method = not (marks_of backend method.attrs (method_start module_set)).disable

-- what a method of the type at the place is lowered to
abbrev pub one_method_form : Setting → ItemPlace → Attrs → DeclaredMethod → Option Method
one_method_form s place module_set method = method_form s.backend s.catalog s.names place (method_start module_set) method

-- the enabled methods, in order
abbrev pub each_method_form : Setting → ItemPlace → Attrs → List DeclaredMethod → Option (List Method)
each_method_form s place module_set methods = all_given (map (one_method_form s place module_set) (filter (is_enabled_method s.backend module_set) methods))

-- of a type with these marks: a disabled one has none
abbrev pub type_method_form : Setting → ItemPlace → Attrs → Attrs → List DeclaredMethod → Option (List Method)
type_method_form s place module_set marks methods = if marks.disable then Some [] else each_method_form s place module_set methods
