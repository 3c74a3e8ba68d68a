-- How the definitions of an interface use each other, in the order in which they are lowered.
use Rattle.std.specs.Prelude.{ℕ, List, [], ◌++◌, Some}
use Rattle.std.specs.List.{flat_map}
use Rattle.hir_definitions.specs.declared.definitions.StructDef.{StructDef}
use Rattle.hir_definitions.specs.declared.methods.Method.{Method}
use Rattle.hir_ids.specs.declared.owners.Borrow.{Borrow}
use Rattle.hir_ids.specs.declared.owners.InputOrOutput.TheVariants as status
use Rattle.hir_types.specs.declared.callbacks.NoCallback.{NoCallback}
use Rattle.hir_types.specs.declared.paths.NoTraitPath.{NoTraitPath}
use Rattle.hir_types.specs.declared.paths.StructPath.{StructPath}
use Rattle.hir_types.specs.declared.positions.Everywhere.{Everywhere}
use Rattle.hir_types.specs.declared.types.HirType.{HirType}
use Rattle.hir_usage.specs.Callbacks.{method_usages, output_usages, struct_id}
use Rattle.hir_usage.specs.Definitions.{fields_usages, trait_usages}
use Rattle.hir_usage.specs.Types.{type_usages}
use Rattle.hir_usage.specs.Uses.{Used}
use Rattle.hir_usage_notes.specs.declared.definitions.LoweredDefinitions.{LoweredDefinitions}

-- the type of a field of a struct that comes in and goes out
abbrev pub field_type_usages : HirType Everywhere NoCallback Borrow ℕ StructPath NoTraitPath → List Used
field_type_usages = type_usages status.InputOutput Some struct_id (λ _. [])

-- methods, in order
abbrev pub methods_usages : List Method → List Used
methods_usages methods = flat_map method_usages methods

-- a struct, by how the types of its fields do: its fields, and then its methods
abbrev pub struct_usages : {P C O I S T : Type 0} → (HirType P C O I S T → List Used) → StructDef P C O I S T → List Used
struct_usages of_type def = fields_usages of_type def.fields ++ methods_usages def.methods

-- all definitions, kind by kind
abbrev pub all_usages : LoweredDefinitions → List Used
all_usages d =
    flat_map (struct_usages output_usages) d.out_structs.items
    ++ flat_map (struct_usages field_type_usages) d.structs.items
    ++ flat_map (λ def. methods_usages def.methods) d.opaques.items
    ++ flat_map (λ def. methods_usages def.methods) d.enums.items
    ++ flat_map trait_usages d.traits.items
    ++ flat_map method_usages d.functions.items
