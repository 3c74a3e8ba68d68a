use Rattle.bridge_places.specs.Places.{places_of}
use Rattle.bridge_places.specs.declared.kinds.Kind.TheVariants as kind
use Rattle.hir_readings.specs.Readings.{fields_among}
use Rattle.hir_readings.proofs.AgreeLemmas.{all_fields, each_read, enum_methods, functions, functions_read, opaque_methods, out_struct_methods, struct_methods, structs_have}
use Rattle.hir_readings.proofs.laws.lowered_definitions_are_read_as_declared.Goals as goal

pub returns-clause-structs : goal.returns-clause-structs
returns-clause-structs c = λ it d is_catalog lowered.
    each_read it (fields_among d.structs.items) (all_fields it d.structs.items (structs_have it d lowered) is_catalog) (λ def. def.methods) d.structs.items (places_of it.modules kind.Struct) (struct_methods it d lowered)

pub returns-clause-out_structs : goal.returns-clause-out_structs
returns-clause-out_structs c = λ it d is_catalog lowered.
    each_read it (fields_among d.structs.items) (all_fields it d.structs.items (structs_have it d lowered) is_catalog) (λ def. def.methods) d.out_structs.items (places_of it.modules kind.OutStruct) (out_struct_methods it d lowered)

pub returns-clause-opaques : goal.returns-clause-opaques
returns-clause-opaques c = λ it d is_catalog lowered.
    each_read it (fields_among d.structs.items) (all_fields it d.structs.items (structs_have it d lowered) is_catalog) (λ def. def.methods) d.opaques.items (places_of it.modules kind.Opaque) (opaque_methods it d lowered)

pub returns-clause-enums : goal.returns-clause-enums
returns-clause-enums c = λ it d is_catalog lowered.
    each_read it (fields_among d.structs.items) (all_fields it d.structs.items (structs_have it d lowered) is_catalog) (λ def. def.methods) d.enums.items (places_of it.modules kind.Enum) (enum_methods it d lowered)

pub returns-clause-functions : goal.returns-clause-functions
returns-clause-functions c = λ it d is_catalog lowered.
    functions_read it (fields_among d.structs.items) (all_fields it d.structs.items (structs_have it d lowered) is_catalog) d.functions.items (places_of it.modules kind.Function) (functions it d lowered)
