-- What is told of the fields of a struct or an out-struct, and what they stand for.
use Rattle.std.specs.Prelude.{ℕ, List, ◌++◌, map, Option, option_map}
use Rattle.std.specs.List.{zip}
use Rattle.bridge_decl.specs.declared.structs.Field.{Field}
use Rattle.bridge_decl.specs.declared.structs.Struct.{Struct}
use Rattle.bridge_grid.specs.Faults.{type_faults}
use Rattle.bridge_grid.specs.Telling.{fault_error}
use Rattle.bridge_grid.specs.declared.part.Part.TheVariants.{Whole}
use Rattle.bridge_order.specs.declared.catalog.Catalog.{Catalog}
use Rattle.bridge_rules.specs.declared.position.Position.TheVariants as position
use Rattle.hir_attrs.specs.Attrs.{empty_attrs}
use Rattle.hir_attrs.specs.Reading.{marks_of}
use Rattle.hir_backends.specs.Backend.{Backend}
use Rattle.hir_backends.specs.declared.support.BackendAttrSupport.{BackendAttrSupport}
use Rattle.hir_definitions.specs.declared.definitions.StructField.{StructField}
use Rattle.hir_docs.specs.Docs.{docs_for}
use Rattle.hir_form.specs.ParamForms.{field_form, out_type_form}
use Rattle.hir_ids.specs.declared.owners.Borrow.{Borrow}
use Rattle.hir_ids.specs.declared.owners.MaybeOwn.{MaybeOwn}
use Rattle.hir_mark_contexts.specs.declared.contexts.MarkContext.TheVariants as marked
use Rattle.hir_number.specs.Naming.{Naming}
use Rattle.hir_reports.specs.declared.report.LoweringError.{LoweringError}
use Rattle.hir_types.specs.declared.callbacks.NoCallback.{NoCallback}
use Rattle.hir_types.specs.declared.paths.NoTraitPath.{NoTraitPath}
use Rattle.hir_types.specs.declared.paths.ReturnableStructPath.{ReturnableStructPath}
use Rattle.hir_types.specs.declared.paths.StructPath.{StructPath}
use Rattle.hir_types.specs.declared.positions.Everywhere.{Everywhere}
use Rattle.hir_types.specs.declared.positions.OutputOnly.{OutputOnly}
use Rattle.hir_types.specs.declared.types.HirType.{HirType}
use Rattle.hir_fields.specs.Heads.{field_heads_errors}
use Rattle.hir_fields.specs.Safety.{safety_errors}
use Rattle.hir_fields.specs.Types.{TypeErrors, field_types_form, types_errors}

-- ---- what is told

-- the type of a struct's field: that its layout isn't safe, and then each of its faults where it stands
abbrev pub struct_type_errors : BackendAttrSupport → Catalog → TypeErrors
struct_type_errors support catalog name ty = safety_errors name ty ++ map fault_error (type_faults support catalog position.Field Whole ty)

-- that of an out-struct's field: each of its faults
abbrev pub out_type_errors : BackendAttrSupport → Catalog → TypeErrors
out_type_errors support catalog name ty = map fault_error (type_faults support catalog position.OutField Whole ty)

-- the fields of a struct: what they have beside types, and then their types
abbrev pub fields_errors : Backend → Catalog → Naming → Struct → List LoweringError
fields_errors backend catalog names item = field_heads_errors backend marked.Field item.fields ++ types_errors (struct_type_errors backend.supports catalog) names item

-- those of an out-struct
abbrev pub out_fields_errors : Backend → Catalog → Naming → Struct → List LoweringError
out_fields_errors backend catalog names item = field_heads_errors backend marked.OutStructField item.fields ++ types_errors (out_type_errors backend.supports catalog) names item

-- ---- what they stand for

-- a field for the backend, by the position of its type
abbrev pub field_with : {P C O I S T : Type 0} → Backend → Field → HirType P C O I S T → StructField P C O I S T
field_with backend field ty = record { docs = docs_for backend field.docs; name = field.name; ty = ty; attrs = marks_of backend field.attrs empty_attrs }

-- all fields with their types, in order
abbrev pub fields_with : {P C O I S T : Type 0} → Backend → List Field → List (HirType P C O I S T) → List (StructField P C O I S T)
fields_with backend fields types = map (λ pair. field_with backend pair.0 pair.1) (zip fields types)

-- the fields of a struct
abbrev pub fields_form : Backend → Catalog → Naming → Struct → Option (List (StructField Everywhere NoCallback Borrow ℕ StructPath NoTraitPath))
fields_form backend catalog names item = option_map (fields_with backend item.fields) (field_types_form (field_form catalog) names item)

-- those of an out-struct
abbrev pub out_fields_form : Backend → Catalog → Naming → Struct → Option (List (StructField OutputOnly NoCallback MaybeOwn ℕ ReturnableStructPath NoTraitPath))
out_fields_form backend catalog names item = option_map (fields_with backend item.fields) (field_types_form (out_type_form catalog) names item)
