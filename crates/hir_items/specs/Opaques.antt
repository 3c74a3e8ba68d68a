-- A declared opaque: what is told of it, and what it is lowered to.
use Rattle.std.specs.Prelude.{ℕ, List, [], ◌∷◌, ◌++◌, length, Option, option_map, nat_lt, if◌then◌else◌}
use Rattle.bridge_ast.specs.declared.place.ItemPlace.{ItemPlace}
use Rattle.bridge_decl.specs.declared.lifetimes.LifetimeEnv.{LifetimeEnv}
use Rattle.bridge_decl.specs.declared.structs.OpaqueType.{OpaqueType}
use Rattle.hir_attrs.specs.declared.attrs.Attrs.{Attrs}
use Rattle.hir_backends.specs.Backend.{Backend}
use Rattle.hir_definitions.specs.Usage.{unused}
use Rattle.hir_definitions.specs.declared.definitions.OpaqueDef.{OpaqueDef}
use Rattle.hir_definitions.specs.declared.methods.Method.{Method}
use Rattle.hir_docs.specs.Docs.{docs_for}
use Rattle.hir_elide.specs.Numbering.{most}
use Rattle.hir_heads.specs.Heads.{lifetime_errors, notes_errors}
use Rattle.hir_heads.specs.Names.{name_errors}
use Rattle.hir_life.specs.Declarations.{declared_environment}
use Rattle.hir_mark_contexts.specs.declared.contexts.MarkContext.TheVariants as marked
use Rattle.hir_presence.specs.Presence.{special_methods}
use Rattle.hir_reports.specs.Texts.{plain_error}
use Rattle.hir_reports.specs.declared.report.LoweringError.{LoweringError}
use Rattle.hir_reports.specs.declared.report.LoweringReport.{LoweringReport}
use Rattle.hir_reports.specs.declared.rule.Rule.TheVariants as rule
use Rattle.hir_items.specs.Inheriting.{item_marks, item_start}
use Rattle.hir_items.specs.Placing.{at_item_itself, where_enabled}
use Rattle.hir_items.specs.Setting.{Setting}
use Rattle.hir_items.specs.TypeMethods.{type_method_form, type_method_reports}

-- ---- what is told

-- that more lifetimes are declared than there may be, where they are
abbrev pub limit_errors : LifetimeEnv → List LoweringError
limit_errors lifetimes = if nat_lt most (length lifetimes.nodes) then plain_error rule.TooManyLifetimes ∷ [] else []

-- of an opaque with these marks, beside its marks and its documents: its name, the names of its lifetimes, that of its destructor, and of an
-- enabled one whether it declares too many lifetimes
abbrev pub opaque_own_errors : Attrs → OpaqueType → List LoweringError
opaque_own_errors marks item =
    name_errors item.name
    ++ lifetime_errors item.lifetimes
    ++ name_errors item.dtor_abi_name
    ++ where_enabled marks (limit_errors item.lifetimes)

-- what its marks break, the conditions of its documents, and that
abbrev pub opaque_errors : Backend → Attrs → OpaqueType → List LoweringError
opaque_errors backend module_set item =
    notes_errors backend marked.Opaque (item_start module_set) item.docs item.attrs
    ++ opaque_own_errors (item_marks backend module_set item.attrs) item

-- at the opaque itself, and then at each method of an enabled one
abbrev pub opaque_reports : Setting → List (List ℕ) → ItemPlace → Attrs → OpaqueType → List LoweringReport
opaque_reports s path place module_set item =
    at_item_itself path item.name (opaque_errors s.backend module_set item)
    ++ type_method_reports s path item.name place module_set (item_marks s.backend module_set item.attrs) item.methods

-- ---- what it is lowered to

-- with these methods
abbrev pub opaque_with : Backend → Attrs → OpaqueType → List Method → OpaqueDef
opaque_with backend module_set item methods =
    record {
      docs = docs_for backend item.docs;
      name = record { 0 = item.name };
      methods = methods;
      attrs = item_marks backend module_set item.attrs;
      lifetimes = declared_environment item.lifetimes;
      special_method_presence = special_methods methods;
      dtor_abi_name = item.dtor_abi_name;
      usage = unused;
    }

-- the opaque with its methods, where these have a form
abbrev pub opaque_item_form : Setting → ItemPlace → Attrs → OpaqueType → Option OpaqueDef
opaque_item_form s place module_set item =
    option_map (opaque_with s.backend module_set item) (type_method_form s place module_set (item_marks s.backend module_set item.attrs) item.methods)
