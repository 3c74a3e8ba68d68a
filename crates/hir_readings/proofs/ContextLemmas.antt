-- A context has the fields and the methods that items are lowered to: notes of uses change neither.
use Rattle.std.proofs.Common.{◌≡◌, List, [], ◌∷◌, map, refl, sym, subst, ◌∙◌}
use Rattle.std.specs.List.{AllZip}
use Rattle.bridge_ast.specs.declared.place.ItemPlace.{ItemPlace}
use Rattle.bridge_places.specs.Entries.{IsCatalog}
use Rattle.bridge_places.specs.Places.{places_of}
use Rattle.bridge_places.specs.declared.kinds.Kind.TheVariants as kind
use Rattle.hir_context.specs.Lookups.{InputStruct, OutputStruct}
use Rattle.hir_context.specs.declared.parts.Definitions.{Definitions}
use Rattle.hir_definitions.specs.declared.definitions.EnumDef.{EnumDef}
use Rattle.hir_definitions.specs.declared.definitions.OpaqueDef.{OpaqueDef}
use Rattle.hir_definitions.specs.declared.usage.TypingUseInfo.{TypingUseInfo}
use Rattle.hir_ids.specs.declared.ids.TypeId.{TypeId}
use Rattle.hir_ids.specs.declared.ids.TypeId.TheVariants as type
use Rattle.hir_lower.specs.Contexts.{StandForItems}
use Rattle.hir_lowering.specs.Interface.{Interface}
use Rattle.hir_skeleton.specs.Inputs.{fields_in}
use Rattle.hir_skeleton.specs.Lowered.{input_fields}
use Rattle.hir_usage_notes.specs.Notes.{each_used, enum_used, opaque_used, struct_used, usages_among}
use Rattle.hir_readings.specs.Declared.{declared_fields, declared_function, declared_methods}
use Rattle.hir_readings.specs.Knowing.{id_there, known_as}
use Rattle.hir_readings.specs.Readings.{AreReadAsDeclared, IsFunctionRead, fields_among}
use Rattle.hir_readings.proofs.AgreeLemmas.{all_fields, each_read, enum_methods, functions, functions_read, opaque_methods, out_struct_methods, struct_methods, structs_have}
use Rattle.hir_readings.proofs.ItemLemmas.{HaveDeclared}
use Rattle.hir_readings.proofs.MethodLemmas.{HasFunction}

-- what holds of definitions beside places holds where their uses are noted, if notes keep it
pub used_zipped : {D Y : Type 0} (note : TypingUseInfo → D → D) (R : D → Y → Type 0) → ((u : TypingUseInfo) (d : D) (y : Y) → R d y → R (note u d) y)
    → (us : List TypingUseInfo) (ds : List D) (ys : List Y) → AllZip R ds ys → AllZip R (each_used note us ds) ys
used_zipped note R keeps [] ds ys all = all
used_zipped note R keeps (u ∷ us) [] [] all = all
used_zipped note R keeps (u ∷ us) [] (y ∷ ys) all = all
used_zipped note R keeps (u ∷ us) (d ∷ ds) [] all = all
used_zipped note R keeps (u ∷ us) (d ∷ ds) (y ∷ ys) all = (keeps u d y all.0, used_zipped note R keeps us ds ys all.1)

module _ (it : Interface) (defs : Definitions) (stands : StandForItems it defs) where
  abbrev HasFields : InputStruct → ItemPlace → Type 0
  HasFields def place = input_fields def ≡ map (known_as (id_there it.catalog)) (declared_fields it place)

  -- ---- lists of a context

  pub structs_are : defs.structs.defs ≡ each_used struct_used (usages_among stands.lowered).structs stands.lowered.structs.items
  structs_are = stands.listed.structs.definitions ∙ stands.noted.structs

  pub out_structs_are : defs.out_structs.defs ≡ each_used struct_used (usages_among stands.lowered).out_structs stands.lowered.out_structs.items
  out_structs_are = stands.listed.out_structs.definitions ∙ stands.noted.out_structs

  pub opaques_are : defs.opaques.defs ≡ each_used opaque_used (usages_among stands.lowered).opaques stands.lowered.opaques.items
  opaques_are = stands.listed.opaques.definitions ∙ stands.noted.opaques

  pub enums_are : defs.enums.defs ≡ each_used enum_used (usages_among stands.lowered).enums stands.lowered.enums.items
  enums_are = stands.listed.enums.definitions ∙ stands.noted.enums

  pub functions_are : defs.functions.defs ≡ stands.lowered.functions.items
  functions_are = stands.listed.functions.definitions ∙ stands.noted.functions

  abbrev in_struct : InputStruct → ItemPlace → Type 0
  in_struct def place = HaveDeclared it place def.methods (declared_methods it place)

  abbrev in_out_struct : OutputStruct → ItemPlace → Type 0
  in_out_struct def place = HaveDeclared it place def.methods (declared_methods it place)

  abbrev in_opaque : OpaqueDef → ItemPlace → Type 0
  in_opaque def place = HaveDeclared it place def.methods (declared_methods it place)

  abbrev in_enum : EnumDef → ItemPlace → Type 0
  in_enum def place = HaveDeclared it place def.methods (declared_methods it place)

  fields_stand : AllZip HasFields defs.structs.defs (places_of it.modules kind.Struct)
  fields_stand =
      subst (λ list. AllZip HasFields list (places_of it.modules kind.Struct)) (sym structs_are)
      (used_zipped struct_used HasFields (λ u def place has. has) (usages_among stands.lowered).structs stands.lowered.structs.items (places_of it.modules kind.Struct) (structs_have it stands.lowered stands.accepted.all))

  structs_stand : AllZip in_struct defs.structs.defs (places_of it.modules kind.Struct)
  structs_stand =
      subst (λ list. AllZip in_struct list (places_of it.modules kind.Struct)) (sym structs_are)
      (used_zipped struct_used in_struct (λ u def place has. has) (usages_among stands.lowered).structs stands.lowered.structs.items (places_of it.modules kind.Struct) (struct_methods it stands.lowered stands.accepted.all))

  out_structs_stand : AllZip in_out_struct defs.out_structs.defs (places_of it.modules kind.OutStruct)
  out_structs_stand =
      subst (λ list. AllZip in_out_struct list (places_of it.modules kind.OutStruct)) (sym out_structs_are)
      (used_zipped struct_used in_out_struct (λ u def place has. has) (usages_among stands.lowered).out_structs stands.lowered.out_structs.items (places_of it.modules kind.OutStruct)
      (out_struct_methods it stands.lowered stands.accepted.all))

  opaques_stand : AllZip in_opaque defs.opaques.defs (places_of it.modules kind.Opaque)
  opaques_stand =
      subst (λ list. AllZip in_opaque list (places_of it.modules kind.Opaque)) (sym opaques_are)
      (used_zipped opaque_used in_opaque (λ u def place has. has) (usages_among stands.lowered).opaques stands.lowered.opaques.items (places_of it.modules kind.Opaque) (opaque_methods it stands.lowered stands.accepted.all))

  enums_stand : AllZip in_enum defs.enums.defs (places_of it.modules kind.Enum)
  enums_stand =
      subst (λ list. AllZip in_enum list (places_of it.modules kind.Enum)) (sym enums_are)
      (used_zipped enum_used in_enum (λ u def place has. has) (usages_among stands.lowered).enums stands.lowered.enums.items (places_of it.modules kind.Enum) (enum_methods it stands.lowered stands.accepted.all))

  functions_stand : AllZip (λ m place. HasFunction it.catalog m (declared_function it place)) defs.functions.defs (places_of it.modules kind.Function)
  functions_stand =
      subst (λ list. AllZip (λ m place. HasFunction it.catalog m (declared_function it place)) list (places_of it.modules kind.Function)) (sym functions_are)
      (functions it stands.lowered stands.accepted.all)

  -- ---- both readings

  module _ (is_catalog : IsCatalog it.modules it.catalog) where
    in_context : (id : TypeId) → fields_in defs id ≡ fields_among defs.structs.defs id
    in_context (type.Struct n) = refl
    in_context (type.OutStruct n) = refl
    in_context (type.Opaque n) = refl
    in_context (type.Enum n) = refl

    pub context_fields : (place : ItemPlace) → fields_in defs (id_there it.catalog place) ≡ map (known_as (id_there it.catalog)) (declared_fields it place)
    context_fields place = in_context (id_there it.catalog place) ∙ all_fields it defs.structs.defs fields_stand is_catalog place

    pub context_structs : AllZip (λ (def : InputStruct) place. AreReadAsDeclared it (fields_in defs) def.methods place) defs.structs.defs (places_of it.modules kind.Struct)
    context_structs = each_read it (fields_in defs) context_fields (λ (def : InputStruct). def.methods) defs.structs.defs (places_of it.modules kind.Struct) structs_stand

    pub context_out_structs : AllZip (λ (def : OutputStruct) place. AreReadAsDeclared it (fields_in defs) def.methods place) defs.out_structs.defs (places_of it.modules kind.OutStruct)
    context_out_structs = each_read it (fields_in defs) context_fields (λ (def : OutputStruct). def.methods) defs.out_structs.defs (places_of it.modules kind.OutStruct) out_structs_stand

    pub context_opaques : AllZip (λ (def : OpaqueDef) place. AreReadAsDeclared it (fields_in defs) def.methods place) defs.opaques.defs (places_of it.modules kind.Opaque)
    context_opaques = each_read it (fields_in defs) context_fields (λ (def : OpaqueDef). def.methods) defs.opaques.defs (places_of it.modules kind.Opaque) opaques_stand

    pub context_enums : AllZip (λ (def : EnumDef) place. AreReadAsDeclared it (fields_in defs) def.methods place) defs.enums.defs (places_of it.modules kind.Enum)
    context_enums = each_read it (fields_in defs) context_fields (λ (def : EnumDef). def.methods) defs.enums.defs (places_of it.modules kind.Enum) enums_stand

    pub context_functions : AllZip (IsFunctionRead it (fields_in defs)) defs.functions.defs (places_of it.modules kind.Function)
    context_functions = functions_read it (fields_in defs) context_fields defs.functions.defs (places_of it.modules kind.Function) functions_stand
