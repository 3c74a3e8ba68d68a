-- How the parts of definitions use definitions.
use Rattle.std.specs.Prelude.{List}
use Rattle.std.specs.List.{flat_map}
use Rattle.hir_types.specs.declared.types.HirType.{HirType}
use Rattle.hir_definitions.specs.declared.definitions.StructField.{StructField}
use Rattle.hir_definitions.specs.declared.definitions.TraitDef.{TraitDef}
use Rattle.hir_usage.specs.Callbacks.{callback_usages}
use Rattle.hir_usage.specs.Uses.{Used}

-- over how a type does
module _ {P C O I S T : Type 0} (of_type : HirType P C O I S T → List Used) where
  -- fields, in order
  abbrev pub fields_usages : List (StructField P C O I S T) → List Used
  fields_usages fields = flat_map (λ f. of_type f.ty) fields

-- the methods of a trait, in order
abbrev pub trait_usages : TraitDef → List Used
trait_usages def = flat_map callback_usages def.methods
