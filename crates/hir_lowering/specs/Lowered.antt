-- What is told of all declarations, and what they are lowered to: modules first, and then the items by their kinds.
use Rattle.std.specs.Prelude.{◌≡◌, ◌++◌, List, Some}
use Rattle.bridge_places.specs.Places.{places_of}
use Rattle.bridge_places.specs.declared.kinds.Kind.TheVariants as kind
use Rattle.hir_modules.specs.ModuleMarks.{all_module_reports}
use Rattle.hir_reports.specs.declared.report.LoweringReport.{LoweringReport}
use Rattle.hir_usage_notes.specs.declared.definitions.LoweredDefinitions.{LoweredDefinitions}
use Rattle.hir_lowering.specs.Interface.{Interface}
use Rattle.hir_lowering.specs.Kinds.{enum_made, function_made, opaque_made, out_struct_made, struct_made, trait_made}
use Rattle.hir_lowering.specs.Kinds.{told_of_enum, told_of_function, told_of_opaque, told_of_out_struct, told_of_struct, told_of_trait}
use Rattle.hir_lowering.specs.Placing.{each_form, each_made, each_report}

-- of the items of all kinds, in the order in which they are lowered
abbrev pub item_reports_in_order : Interface → List LoweringReport
item_reports_in_order it =
    each_report it told_of_out_struct (places_of it.modules kind.OutStruct)
    ++ each_report it told_of_struct (places_of it.modules kind.Struct)
    ++ each_report it told_of_opaque (places_of it.modules kind.Opaque)
    ++ each_report it told_of_enum (places_of it.modules kind.Enum)
    ++ each_report it told_of_trait (places_of it.modules kind.Trait)
    ++ each_report it told_of_function (places_of it.modules kind.Function)

-- of the modules, and then of the items
abbrev pub lowering_reports : Interface → List LoweringReport
lowering_reports it = all_module_reports it.backend it.modules ++ item_reports_in_order it

-- the definitions of each kind: those of the items of which nothing is told, in order
pub record AreLowered (it : Interface) (d : LoweredDefinitions) : Type 0 where
  pub out_structs : d.out_structs.items ≡ each_made it told_of_out_struct out_struct_made (places_of it.modules kind.OutStruct)
  pub structs : d.structs.items ≡ each_made it told_of_struct struct_made (places_of it.modules kind.Struct)
  pub opaques : d.opaques.items ≡ each_made it told_of_opaque opaque_made (places_of it.modules kind.Opaque)
  pub enums : d.enums.items ≡ each_made it told_of_enum enum_made (places_of it.modules kind.Enum)
  pub traits : d.traits.items ≡ each_made it told_of_trait trait_made (places_of it.modules kind.Trait)
  pub functions : d.functions.items ≡ each_made it told_of_function function_made (places_of it.modules kind.Function)

-- the definitions of each kind: those of all its items, in order, none left out and none added
pub record AreAllLowered (it : Interface) (d : LoweredDefinitions) : Type 0 where
  pub out_structs : each_form it out_struct_made (places_of it.modules kind.OutStruct) ≡ Some d.out_structs.items
  pub structs : each_form it struct_made (places_of it.modules kind.Struct) ≡ Some d.structs.items
  pub opaques : each_form it opaque_made (places_of it.modules kind.Opaque) ≡ Some d.opaques.items
  pub enums : each_form it enum_made (places_of it.modules kind.Enum) ≡ Some d.enums.items
  pub traits : each_form it trait_made (places_of it.modules kind.Trait) ≡ Some d.traits.items
  pub functions : each_form it function_made (places_of it.modules kind.Function) ≡ Some d.functions.items
