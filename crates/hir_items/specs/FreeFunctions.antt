-- A declared function as an item of its module: what is told of it, and what it is lowered to.
use Rattle.std.specs.Prelude.{ℕ, List, Option}
use Rattle.bridge_decl.specs.declared.functions.Function.{Function}
use Rattle.hir_attrs.specs.declared.attrs.Attrs.{Attrs}
use Rattle.hir_definitions.specs.declared.methods.Method.{Method}
use Rattle.hir_methods.specs.Functions.{function_errors, function_form}
use Rattle.hir_reports.specs.declared.report.LoweringReport.{LoweringReport}
use Rattle.hir_items.specs.Inheriting.{item_start}
use Rattle.hir_items.specs.Placing.{at_item_itself}
use Rattle.hir_items.specs.Setting.{Setting}

-- what is told of it, at itself: its marks start from what a type takes over
abbrev pub function_reports : Setting → List (List ℕ) → Attrs → Function → List LoweringReport
function_reports s path module_set item =
    at_item_itself path item.name (function_errors s.backend s.support s.config s.catalog s.names (item_start module_set) item)

-- what it is lowered to
abbrev pub function_item_form : Setting → Attrs → Function → Option Method
function_item_form s module_set item = function_form s.backend s.catalog s.names (item_start module_set) item
