use Rattle.std.proofs.Common.{◌++◌, Some, ap, sym, ◌∙◌}
use Rattle.bridge_ast.specs.declared.place.ItemPlace.{ItemPlace}
use Rattle.bridge_places.specs.Places.{places_of}
use Rattle.bridge_places.specs.declared.kinds.Kind.{Kind}
use Rattle.bridge_places.specs.declared.kinds.Kind.TheVariants as kind
use Rattle.hir_number.proofs.ElisionLemmas.{none_of}
use Rattle.hir_lowering.specs.Kinds.{enum_made, function_made, opaque_made, out_struct_made, struct_made, trait_made}
use Rattle.hir_lowering.specs.Kinds.{told_of_enum, told_of_function, told_of_opaque, told_of_out_struct, told_of_struct, told_of_trait}
use Rattle.hir_lowering.specs.Placing.{each_report}
use Rattle.hir_lowering.proofs.AllLemmas.{kind_made}
use Rattle.hir_lowering.proofs.FineLemmas.{fine_enum, fine_function, fine_opaque, fine_out_struct, fine_struct, fine_trait}
use Rattle.hir_lowering.proofs.laws.what_is_fine_is_all_made.Goals as goal

pub returns : goal.returns
returns c = λ it d none are.
    let out_structs = each_report it told_of_out_struct (places_of it.modules kind.OutStruct) in
    let structs = each_report it told_of_struct (places_of it.modules kind.Struct) in
    let opaques = each_report it told_of_opaque (places_of it.modules kind.Opaque) in
    let enums = each_report it told_of_enum (places_of it.modules kind.Enum) in
    let traits = each_report it told_of_trait (places_of it.modules kind.Trait) in
    let functions = each_report it told_of_function (places_of it.modules kind.Function) in
    let sixth = none_of ((((out_structs ++ structs) ++ opaques) ++ enums) ++ traits) functions none in
    let fifth = none_of (((out_structs ++ structs) ++ opaques) ++ enums) traits sixth.0 in
    let fourth = none_of ((out_structs ++ structs) ++ opaques) enums fifth.0 in
    let third = none_of (out_structs ++ structs) opaques fourth.0 in
    let first = none_of out_structs structs third.0 in
    let listed = λ (k : Kind) (place : ItemPlace). c.a_listed_place_has_its_kind.ensures it.modules k place in
    record {
      out_structs = kind_made it told_of_out_struct out_struct_made kind.OutStruct (listed kind.OutStruct) (fine_out_struct c.what_is_fine_is_made.ensures.out_structs it) first.0 ∙ ap Some (sym are.out_structs);
      structs = kind_made it told_of_struct struct_made kind.Struct (listed kind.Struct) (fine_struct c.what_is_fine_is_made.ensures.structs it) first.1 ∙ ap Some (sym are.structs);
      opaques = kind_made it told_of_opaque opaque_made kind.Opaque (listed kind.Opaque) (fine_opaque c.what_is_fine_is_made.ensures.opaques it) third.1 ∙ ap Some (sym are.opaques);
      enums = kind_made it told_of_enum enum_made kind.Enum (listed kind.Enum) (fine_enum c.what_is_fine_is_made.ensures.enums it) fourth.1 ∙ ap Some (sym are.enums);
      traits = kind_made it told_of_trait trait_made kind.Trait (listed kind.Trait) (fine_trait c.what_is_fine_is_made-2.ensures it) fifth.1 ∙ ap Some (sym are.traits);
      functions = kind_made it told_of_function function_made kind.Function (listed kind.Function) (fine_function c.what_is_fine_is_made.ensures.functions it) sixth.1 ∙ ap Some (sym are.functions);
    }
