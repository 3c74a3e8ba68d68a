-- A declared enum: what is told of it, and what it is lowered to.
use Rattle.std.specs.Prelude.{ℕ, List, ◌++◌, Option, option_map}
use Rattle.bridge_ast.specs.declared.place.ItemPlace.{ItemPlace}
use Rattle.bridge_decl.specs.declared.enums.Enum.{Enum}
use Rattle.hir_attrs.specs.declared.attrs.Attrs.{Attrs}
use Rattle.hir_backends.specs.Backend.{Backend}
use Rattle.hir_definitions.specs.Usage.{unused}
use Rattle.hir_definitions.specs.declared.definitions.EnumDef.{EnumDef}
use Rattle.hir_definitions.specs.declared.methods.Method.{Method}
use Rattle.hir_docs.specs.Docs.{docs_for}
use Rattle.hir_fields.specs.Variants.{variants_errors, variants_form}
use Rattle.hir_heads.specs.Heads.{notes_errors}
use Rattle.hir_heads.specs.Names.{name_errors}
use Rattle.hir_mark_contexts.specs.declared.contexts.MarkContext.TheVariants as marked
use Rattle.hir_presence.specs.Presence.{special_methods}
use Rattle.hir_reports.specs.declared.report.LoweringError.{LoweringError}
use Rattle.hir_reports.specs.declared.report.LoweringReport.{LoweringReport}
use Rattle.hir_items.specs.Inheriting.{item_marks, item_start}
use Rattle.hir_items.specs.Placing.{at_item_itself}
use Rattle.hir_items.specs.Setting.{Setting}
use Rattle.hir_items.specs.TypeMethods.{type_method_form, type_method_reports}

-- ---- what is told

-- of an enum with these marks, beside its marks and its documents: its name and its variants, also where it is disabled
abbrev pub enum_own_errors : Backend → Attrs → Enum → List LoweringError
enum_own_errors backend marks item = name_errors item.name ++ variants_errors backend marks item.variants

-- what its marks break, the conditions of its documents, and that
abbrev pub enum_errors : Backend → Attrs → Enum → List LoweringError
enum_errors backend module_set item =
    notes_errors backend marked.Enum (item_start module_set) item.docs item.attrs
    ++ enum_own_errors backend (item_marks backend module_set item.attrs) item

-- at the enum itself, and then at each method of an enabled one
abbrev pub enum_reports : Setting → List (List ℕ) → ItemPlace → Attrs → Enum → List LoweringReport
enum_reports s path place module_set item =
    at_item_itself path item.name (enum_errors s.backend module_set item)
    ++ type_method_reports s path item.name place module_set (item_marks s.backend module_set item.attrs) item.methods

-- ---- what it is lowered to

-- with these methods
abbrev pub enum_with : Backend → Attrs → Enum → List Method → EnumDef
enum_with backend module_set item methods =
    record {
      docs = docs_for backend item.docs;
      name = record { 0 = item.name };
      variants = variants_form backend (item_marks backend module_set item.attrs) item.variants;
      methods = methods;
      attrs = item_marks backend module_set item.attrs;
      special_method_presence = special_methods methods;
      usage = unused;
    }

-- the enum with its methods, where these have a form
abbrev pub enum_item_form : Setting → ItemPlace → Attrs → Enum → Option EnumDef
enum_item_form s place module_set item =
    option_map (enum_with s.backend module_set item) (type_method_form s place module_set (item_marks s.backend module_set item.attrs) item.methods)
