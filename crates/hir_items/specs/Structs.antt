-- A declared struct or out-struct: what is told of it, and what it is lowered to.
use Rattle.std.specs.Prelude.{ℕ, List, [], ◌∷◌, ◌++◌, Option, Some, if◌then◌else◌}
use Rattle.bridge_ast.specs.declared.place.ItemPlace.{ItemPlace}
use Rattle.bridge_decl.specs.declared.methods.Method.{Method as DeclaredMethod}
use Rattle.bridge_decl.specs.declared.structs.Field.{Field}
use Rattle.bridge_decl.specs.declared.structs.Struct.{Struct}
use Rattle.hir_attrs.specs.declared.attrs.Attrs.{Attrs}
use Rattle.hir_backends.specs.Backend.{Backend}
use Rattle.hir_definitions.specs.Usage.{unused}
use Rattle.hir_definitions.specs.declared.definitions.StructDef.{StructDef}
use Rattle.hir_definitions.specs.declared.definitions.StructField.{StructField}
use Rattle.hir_definitions.specs.declared.methods.Method.{Method}
use Rattle.hir_docs.specs.Docs.{docs_for}
use Rattle.hir_fields.specs.Fields.{fields_errors, fields_form, out_fields_errors, out_fields_form}
use Rattle.hir_form.specs.ReturnForms.{both_given}
use Rattle.hir_heads.specs.Heads.{lifetime_errors, notes_errors}
use Rattle.hir_heads.specs.Names.{name_errors}
use Rattle.hir_ids.specs.declared.owners.Borrow.{Borrow}
use Rattle.hir_ids.specs.declared.owners.MaybeOwn.{MaybeOwn}
use Rattle.hir_life.specs.Declarations.{declared_environment}
use Rattle.hir_mark_contexts.specs.declared.contexts.MarkContext.TheVariants as marked
use Rattle.hir_presence.specs.Presence.{special_methods}
use Rattle.hir_reports.specs.Texts.{plain_error}
use Rattle.hir_reports.specs.declared.report.LoweringError.{LoweringError}
use Rattle.hir_reports.specs.declared.report.LoweringReport.{LoweringReport}
use Rattle.hir_reports.specs.declared.rule.Rule.TheVariants as rule
use Rattle.hir_types.specs.declared.callbacks.NoCallback.{NoCallback}
use Rattle.hir_types.specs.declared.paths.NoTraitPath.{NoTraitPath}
use Rattle.hir_types.specs.declared.paths.ReturnableStructPath.{ReturnableStructPath}
use Rattle.hir_types.specs.declared.paths.StructPath.{StructPath}
use Rattle.hir_types.specs.declared.positions.Everywhere.{Everywhere}
use Rattle.hir_types.specs.declared.positions.OutputOnly.{OutputOnly}
use Rattle.hir_items.specs.Inheriting.{item_marks, item_start}
use Rattle.hir_items.specs.Placing.{at_item_itself, where_enabled}
use Rattle.hir_items.specs.Setting.{Setting}
use Rattle.hir_items.specs.TypeMethods.{type_method_form, type_method_reports}

-- ---- what is told

-- that a struct without fields has methods, disabled ones too, where it has
abbrev pub zero_size_errors : List Field → List DeclaredMethod → List LoweringError
zero_size_errors [] (m ∷ ms) = plain_error rule.ZeroSizeMethods ∷ []
zero_size_errors [] [] = []
zero_size_errors (f ∷ fs) methods = []

-- of a struct with these marks, beside its marks and its documents: its name, the names of its lifetimes, and of an enabled one that, and its
-- fields
abbrev pub struct_own_errors : Setting → Attrs → Struct → List LoweringError
struct_own_errors s marks item =
    name_errors item.name
    ++ lifetime_errors item.lifetimes
    ++ where_enabled marks (zero_size_errors item.fields item.methods ++ fields_errors s.backend s.catalog s.names item)

-- so of an out-struct, which may have methods without fields
abbrev pub out_struct_own_errors : Setting → Attrs → Struct → List LoweringError
out_struct_own_errors s marks item =
    name_errors item.name
    ++ lifetime_errors item.lifetimes
    ++ where_enabled marks (out_fields_errors s.backend s.catalog s.names item)

-- what its marks break, the conditions of its documents, and that
abbrev pub struct_errors : Setting → Attrs → Struct → List LoweringError
struct_errors s module_set item =
    notes_errors s.backend marked.Struct (item_start module_set) item.docs item.attrs
    ++ struct_own_errors s (item_marks s.backend module_set item.attrs) item

abbrev pub out_struct_errors : Setting → Attrs → Struct → List LoweringError
out_struct_errors s module_set item =
    notes_errors s.backend marked.OutStruct (item_start module_set) item.docs item.attrs
    ++ out_struct_own_errors s (item_marks s.backend module_set item.attrs) item

-- at the struct itself, and then at each method of an enabled one
abbrev pub struct_reports : Setting → List (List ℕ) → ItemPlace → Attrs → Struct → List LoweringReport
struct_reports s path place module_set item =
    at_item_itself path item.name (struct_errors s module_set item)
    ++ type_method_reports s path item.name place module_set (item_marks s.backend module_set item.attrs) item.methods

abbrev pub out_struct_reports : Setting → List (List ℕ) → ItemPlace → Attrs → Struct → List LoweringReport
out_struct_reports s path place module_set item =
    at_item_itself path item.name (out_struct_errors s module_set item)
    ++ type_method_reports s path item.name place module_set (item_marks s.backend module_set item.attrs) item.methods

-- ---- what it is lowered to

-- with these fields and methods, by the position of its fields' types
abbrev pub struct_with : {P C O I S T : Type 0} → Backend → Attrs → Struct → List (StructField P C O I S T) → List Method → StructDef P C O I S T
struct_with backend module_set item fields methods =
    record {
      docs = docs_for backend item.docs;
      name = record { 0 = item.name };
      fields = fields;
      methods = methods;
      attrs = item_marks backend module_set item.attrs;
      lifetimes = declared_environment item.lifetimes;
      special_method_presence = special_methods methods;
      usage = unused;
    }

-- the fields of what has these marks: of a disabled one none
abbrev pub type_fields_form : {F : Type 0} → Attrs → Option (List F) → Option (List F)
type_fields_form marks form = if marks.disable then Some [] else form

-- the struct with its fields and its methods, where these have a form
abbrev pub struct_item_form : Setting → ItemPlace → Attrs → Struct → Option (StructDef Everywhere NoCallback Borrow ℕ StructPath NoTraitPath)
struct_item_form s place module_set item =
    let marks = item_marks s.backend module_set item.attrs in
    both_given (struct_with s.backend module_set item) (type_fields_form marks (fields_form s.backend s.catalog s.names item))
    (type_method_form s place module_set marks item.methods)

-- so an out-struct
abbrev pub out_struct_item_form : Setting → ItemPlace → Attrs → Struct → Option (StructDef OutputOnly NoCallback MaybeOwn ℕ ReturnableStructPath NoTraitPath)
out_struct_item_form s place module_set item =
    let marks = item_marks s.backend module_set item.attrs in
    both_given (struct_with s.backend module_set item) (type_fields_form marks (out_fields_form s.backend s.catalog s.names item))
    (type_method_form s place module_set marks item.methods)
