-- Special methods that stand once on a type: what is told of one after another.
use Rattle.std.specs.Prelude.{ℕ, List, [], ◌∷◌, ◌++◌, Option, None, option_map, if◌then◌else◌}
use Rattle.bridge_decl.specs.declared.methods.Method.{Method as DeclaredMethod}
use Rattle.hir_attrs.specs.Reading.{marks_of}
use Rattle.hir_attrs.specs.Special.{special_kind}
use Rattle.hir_attrs.specs.declared.attrs.Attrs.{Attrs}
use Rattle.hir_attrs.specs.declared.special.kind.SpecialKind.{SpecialKind}
use Rattle.hir_backends.specs.Backend.{Backend}
use Rattle.hir_backends.specs.declared.support.BackendAttrSupport.{BackendAttrSupport}
use Rattle.hir_reports.specs.declared.report.LoweringReport.{LoweringReport}
use Rattle.hir_special.specs.Repeated.{repeated_errors, seen_after}
use Rattle.hir_special.specs.declared.repeated.SeenSpecials.{SeenSpecials}
use Rattle.hir_items.specs.Inheriting.{method_start}
use Rattle.hir_items.specs.Placing.{at_method_of}

-- what one with these marks is, where it is enabled
abbrev pub enabled_kind : Attrs → Option SpecialKind
enabled_kind attrs = if attrs.disable then None else option_map special_kind attrs.special_method

-- so of a method, whose marks start from what the module hands on
abbrev pub method_kind : Backend → Attrs → DeclaredMethod → Option SpecialKind
method_kind backend module_set method = enabled_kind (marks_of backend method.attrs (method_start module_set))

-- what is told of one after those that were seen, at the method
abbrev pub repeated_report : Backend → BackendAttrSupport → List (List ℕ) → List ℕ → Attrs → SeenSpecials → DeclaredMethod → List LoweringReport
repeated_report backend support path item module_set seen method =
    at_method_of path item method.name (repeated_errors support seen (method_kind backend module_set method))

-- each of a list after those
abbrev pub repeated_reports : Backend → BackendAttrSupport → List (List ℕ) → List ℕ → Attrs → SeenSpecials → List DeclaredMethod → List LoweringReport
repeated_reports backend support path item module_set seen [] = []
repeated_reports backend support path item module_set seen (method ∷ methods) =
    repeated_report backend support path item module_set seen method
    ++ repeated_reports backend support path item module_set (seen_after (method_kind backend module_set method) seen) methods
