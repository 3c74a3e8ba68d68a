use Rattle.std.proofs.Common.{map, refl}
use Rattle.hir_ids.specs.declared.ids.SymbolId.TheVariants as symbol
use Rattle.hir_ids.specs.declared.ids.TypeId.TheVariants as type
use Rattle.hir_fitting.specs.Parts.{parts_of_enum, parts_of_opaque, parts_of_trait}
use Rattle.hir_context.specs.Fitness.{out_struct_parts, plain_struct_parts}
use Rattle.hir_context.proofs.Naming.{all_named, if_ok_so, none_told, some_unfit}
use Rattle.hir_context.proofs.context.census_misfit.Goals as goal

pub returns-then-is_some : goal.returns-then-is_some
returns-then-is_some c =
    some_unfit c.args.defs.now c.args.census.now (λ place. symbol.TypeId (type.OutStruct place)) (out_struct_parts c.args.defs.now) c.requires (λ place. refl) c.in_ok-out_structs.out_structs c.in_ok-out_structs.ensures c.if-is_some.ensures

pub returns-then-is_some-2 : goal.returns-then-is_some-2
returns-then-is_some-2 c =
    some_unfit c.args.defs.now c.args.census.now (λ place. symbol.TypeId (type.Struct place)) (plain_struct_parts c.args.defs.now) c.requires (λ place. refl) c.in_ok-structs.structs c.in_ok-structs.ensures c.if-is_some-2.ensures

pub returns-then-is_some-3 : goal.returns-then-is_some-3
returns-then-is_some-3 c =
    some_unfit c.args.defs.now c.args.census.now (λ place. symbol.TypeId (type.Opaque place)) (map parts_of_opaque c.args.defs.now.opaques.defs) c.requires (λ place. refl) c.in_ok-opaques.opaques c.in_ok-opaques.ensures c.if-is_some-3.ensures

pub returns-then-is_some-4 : goal.returns-then-is_some-4
returns-then-is_some-4 c =
    some_unfit c.args.defs.now c.args.census.now (λ place. symbol.TypeId (type.Enum place)) (map parts_of_enum c.args.defs.now.enums.defs) c.requires (λ place. refl) c.in_ok-enums.enums c.in_ok-enums.ensures c.if-is_some-4.ensures

pub returns-then-is_some-5 : goal.returns-then-is_some-5
returns-then-is_some-5 c =
    some_unfit c.args.defs.now c.args.census.now (λ place. symbol.TraitId place) (map parts_of_trait c.args.defs.now.traits.defs) c.requires (λ place. refl) c.in_ok-traits.traits c.in_ok-traits.ensures c.if-is_some-5.ensures

pub returns : goal.returns
returns c =
    if_ok_so c.kind_misfit-6.result c.kind_misfit-6.ensures
    (all_named c.args.defs.now c.args.census.now c.requires
    (none_told c.args.census.now (λ place. symbol.TypeId (type.OutStruct place)) (out_struct_parts c.args.defs.now) c.in_ok-out_structs.out_structs c.in_ok-out_structs.ensures c.if-is_some.ensures)
    (none_told c.args.census.now (λ place. symbol.TypeId (type.Struct place)) (plain_struct_parts c.args.defs.now) c.in_ok-structs.structs c.in_ok-structs.ensures c.if-is_some-2.ensures)
    (none_told c.args.census.now (λ place. symbol.TypeId (type.Opaque place)) (map parts_of_opaque c.args.defs.now.opaques.defs) c.in_ok-opaques.opaques c.in_ok-opaques.ensures c.if-is_some-3.ensures)
    (none_told c.args.census.now (λ place. symbol.TypeId (type.Enum place)) (map parts_of_enum c.args.defs.now.enums.defs) c.in_ok-enums.enums c.in_ok-enums.ensures c.if-is_some-4.ensures)
    (none_told c.args.census.now (λ place. symbol.TraitId place) (map parts_of_trait c.args.defs.now.traits.defs) c.in_ok-traits.traits c.in_ok-traits.ensures c.if-is_some-5.ensures))
