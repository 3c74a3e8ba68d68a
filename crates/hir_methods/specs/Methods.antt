-- A declared method: what is told of it, and what it is lowered to.
use Rattle.std.specs.Prelude.{List, [], ◌++◌, Option, None, Some, option_map, if◌then◌else◌}
use Rattle.bridge_ast.specs.declared.place.ItemPlace.{ItemPlace}
use Rattle.bridge_decl.specs.declared.methods.Method.{Method as DeclaredMethod}
use Rattle.bridge_order.specs.Catalog.{entry_at}
use Rattle.bridge_order.specs.declared.catalog.Catalog.{Catalog}
use Rattle.bridge_order.specs.declared.catalog.Entry.{Entry}
use Rattle.bridge_order.specs.declared.catalog.Entry.TheVariants as entry
use Rattle.hir_attrs.specs.Reading.{marks_of}
use Rattle.hir_attrs.specs.declared.attrs.Attrs.{Attrs}
use Rattle.hir_backends.specs.Backend.{Backend}
use Rattle.hir_backends.specs.declared.support.BackendAttrSupport.{BackendAttrSupport}
use Rattle.hir_definitions.specs.declared.methods.Method.{Method}
use Rattle.hir_config.specs.declared.config.LoweringConfig.{LoweringConfig}
use Rattle.hir_ids.specs.declared.ids.TypeId.{TypeId}
use Rattle.hir_ids.specs.declared.ids.TypeId.TheVariants as type
use Rattle.hir_mark_contexts.specs.Told.{tested_errors}
use Rattle.hir_mark_contexts.specs.declared.contexts.MarkContext.TheVariants as marked
use Rattle.hir_methods.specs.Required.{method_param_errors}
use Rattle.hir_number.specs.Naming.{Naming}
use Rattle.hir_number.specs.Signatures.{without_writer}
use Rattle.hir_reports.specs.declared.report.LoweringError.{LoweringError}
use Rattle.hir_special.specs.Told.{special_errors}
use Rattle.hir_methods.specs.Types.{method_type_errors, method_types, unless_told, whole_of}
use Rattle.hir_methods.specs.Untyped.{heading_errors, heading_form, receiver_mark_errors, receiver_marks, unless_disabled, untyped_forms}

-- what is told of an enabled one beside its own marks: of its heading, its receiver, its parameters without the trailing writer, and
-- its types
abbrev pub enabled_errors : Backend → BackendAttrSupport → LoweringConfig → Catalog → Naming → ItemPlace → DeclaredMethod → List LoweringError
enabled_errors backend support config catalog names owner method =
    heading_errors backend method.docs method.name method.abi_name method.lifetime_env
    ++ receiver_mark_errors backend method.self_param
    ++ method_param_errors backend (without_writer method.params)
    ++ method_type_errors support config catalog names owner method

-- what is told of one of the type there, but for what it is marked as: its marks, which start from those of its parent, and the rest
-- unless it is disabled
abbrev pub plain_method_errors : Backend → BackendAttrSupport → LoweringConfig → Catalog → Naming → ItemPlace → Attrs → DeclaredMethod → List LoweringError
plain_method_errors backend support config catalog names owner parent method =
    tested_errors backend marked.Method method.attrs parent
    ++ unless_disabled (marks_of backend method.attrs parent) (enabled_errors backend support config catalog names owner method)

-- ---- what it is lowered to

-- an enabled one with these marks, where its types have a form
abbrev pub enabled_form : Backend → Catalog → Naming → ItemPlace → Attrs → DeclaredMethod → Option Method
enabled_form backend catalog names owner attrs method =
    option_map (whole_of attrs (heading_form backend method.docs method.name method.abi_name) (receiver_marks backend method.self_param)
    (untyped_forms backend (without_writer method.params))) (method_types catalog names owner method)

-- one with these marks: none where it is disabled
abbrev pub marked_form : Backend → Catalog → Naming → ItemPlace → Attrs → DeclaredMethod → Option Method
marked_form backend catalog names owner attrs method =
    if attrs.disable then None else enabled_form backend catalog names owner attrs method

-- what it is lowered to
abbrev pub method_form : Backend → Catalog → Naming → ItemPlace → Attrs → DeclaredMethod → Option Method
method_form backend catalog names owner parent method =
    marked_form backend catalog names owner (marks_of backend method.attrs parent) method

-- ---- special methods

-- the type there. What is no type has no methods here, and counts as an enum
abbrev pub owner_id : Entry → TypeId
owner_id (entry.Struct id has_fields) = type.Struct id
owner_id (entry.OutStruct id has_fields) = type.OutStruct id
owner_id (entry.Opaque id mark) = type.Opaque id
owner_id (entry.Enum id) = type.Enum id
owner_id (entry.Trait id) = type.Enum id
owner_id (entry.Function id) = type.Enum id

-- what is told of one that was made, by what it is marked as
abbrev pub made_errors : BackendAttrSupport → TypeId → Option Method → List LoweringError
made_errors support owner None = []
made_errors support owner (Some method) = special_errors support owner method

-- after what is told of it else: nothing where that is anything
abbrev pub with_special : BackendAttrSupport → TypeId → List LoweringError → Option Method → List LoweringError
with_special support owner told form = told ++ made_errors support owner (unless_told told form)

-- ---- in all

-- what is told of one of the type there: all else, and where that is nothing, what it breaks as a special method
unfoldable pub method_errors : Backend → BackendAttrSupport → LoweringConfig → Catalog → Naming → ItemPlace → Attrs → DeclaredMethod → List LoweringError
method_errors backend support config catalog names owner parent method =
    with_special support (owner_id (entry_at catalog owner)) (plain_method_errors backend support config catalog names owner parent method)
    (method_form backend catalog names owner parent method)
