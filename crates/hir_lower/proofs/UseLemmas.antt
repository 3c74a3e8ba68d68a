-- Definitions with what is noted of their use are as they were, and fit where what is noted does.
use Rattle.std.proofs.Common.{◌≡◌, ℕ, suc, List, [], ◌∷◌, ◌++◌, ap, length, map, refl, ◌∙◌}
use Rattle.std.specs.List.{All, flat_map}
use Rattle.std.proofs.lemmas.List.Elements.{All-append, All-cons, All-head, All-nil, All-tail}
use Rattle.hir_context.specs.Lookups.{InputStruct, OutputStruct}
use Rattle.hir_definitions.specs.declared.definitions.EnumDef.{EnumDef}
use Rattle.hir_definitions.specs.declared.definitions.OpaqueDef.{OpaqueDef}
use Rattle.hir_definitions.specs.declared.definitions.TraitDef.{TraitDef}
use Rattle.hir_definitions.specs.declared.methods.Method.{Method}
use Rattle.hir_definitions.specs.declared.special.SpecialMethodPresence.{SpecialMethodPresence}
use Rattle.hir_definitions.specs.declared.usage.TypingUseInfo.{TypingUseInfo}
use Rattle.hir_fitting.specs.Parts.{DefinitionFits, Part, PartFits, fields_part, free, method_part, parts_of_enum, parts_of_function, parts_of_opaque, parts_of_struct, parts_of_trait, parts_of_type}
use Rattle.hir_fitting.specs.declared.census.Census.{Census}
use Rattle.hir_mentions.specs.Callbacks.{field_mentions, output_mentions}
use Rattle.hir_mentions.specs.Definitions.{special_mentions, trait_mentions, usage_mentions}
use Rattle.hir_usage.specs.Callbacks.{method_usages, output_usages}
use Rattle.hir_usage.specs.Definitions.{fields_usages, trait_usages}
use Rattle.hir_usage.specs.Tables.{Usages, noted, unused_of}
use Rattle.hir_usage.specs.Uses.{Used}
use Rattle.hir_usage_notes.specs.AllUses.{all_usages, field_type_usages, methods_usages, struct_usages}
use Rattle.hir_usage_notes.specs.Notes.{each_used, usages_among}
use Rattle.hir_usage_notes.specs.declared.definitions.LoweredDefinitions.{LoweredDefinitions}
use Rattle.hir_fitting_forms.specs.Uses.{UsagesFit, UseFits}
use Rattle.hir_lower.proofs.MadeLemmas.{all_flat, all_front}

-- ---- what is noted changes nothing else

pub used_same : {D A : Type 0} (note : TypingUseInfo → D → D) (f : D → A) → ((u : TypingUseInfo) (d : D) → f (note u d) ≡ f d) → (us : List TypingUseInfo) (ds : List D)
    → map f (each_used note us ds) ≡ map f ds
used_same note f same [] ds = refl
used_same note f same (u ∷ us) [] = refl
used_same note f same (u ∷ us) (d ∷ ds) = ap (λ x. x ∷ map f (each_used note us ds)) (same u d) ∙ ap (λ xs. f d ∷ xs) (used_same note f same us ds)

pub used_long : {D : Type 0} (note : TypingUseInfo → D → D) (us : List TypingUseInfo) (ds : List D) → length (each_used note us ds) ≡ length ds
used_long note [] ds = refl
used_long note (u ∷ us) [] = refl
used_long note (u ∷ us) (d ∷ ds) = ap suc (used_long note us ds)

-- what holds of all definitions still does, where what is noted is good
pub used_all : {D : Type 0} (P : D → Type 0) (Good : TypingUseInfo → Type 0) (note : TypingUseInfo → D → D) → ((u : TypingUseInfo) (d : D) → Good u → P d → P (note u d))
    → (us : List TypingUseInfo) (ds : List D) → All Good us → All P ds → All P (each_used note us ds)
used_all P Good note keeps [] ds good all = all
used_all P Good note keeps (u ∷ us) [] good all = All-nil P
used_all P Good note keeps (u ∷ us) (d ∷ ds) good all =
    All-cons P (note u d) (each_used note us ds) (keeps u d (All-head Good u us good) (All-head P d ds all))
    (used_all P Good note keeps us ds (All-tail Good u us good) (All-tail P d ds all))

-- ---- uses fit where definitions do

module _ (census : Census) (of_method : (m : Method) → PartFits census (method_part m) → All (UseFits census) (method_usages m)) where
  -- of the methods of a type
  pub methods_use : (methods : List Method) (rest : List Part) → All (PartFits census) (map method_part methods ++ rest) → All (UseFits census) (methods_usages methods)
  methods_use methods rest all =
      all_flat (UseFits census) (λ m. PartFits census (method_part m)) method_usages of_method methods (all_front (PartFits census) method_part methods rest all)

  pub type_uses : (methods : List Method) (special : SpecialMethodPresence) (usage : TypingUseInfo) → DefinitionFits census (parts_of_type methods special usage) → All (UseFits census) (methods_usages methods)
  type_uses methods special usage all = methods_use methods (free (special_mentions special) ∷ free (usage_mentions usage) ∷ []) all

  pub out_struct_uses : ((d : OutputStruct) → All (UseFits census) (fields_usages output_usages d.fields)) → (d : OutputStruct)
      → DefinitionFits census (parts_of_struct output_mentions d) → All (UseFits census) (struct_usages output_usages d)
  out_struct_uses fields d all =
      All-append (UseFits census) (fields_usages output_usages d.fields) (methods_usages d.methods) (fields d)
      (type_uses d.methods d.special_method_presence d.usage (All-tail (PartFits census) (fields_part output_mentions d) (parts_of_type d.methods d.special_method_presence d.usage) all))

  pub struct_uses : ((d : InputStruct) → All (UseFits census) (fields_usages field_type_usages d.fields)) → (d : InputStruct)
      → DefinitionFits census (parts_of_struct field_mentions d) → All (UseFits census) (struct_usages field_type_usages d)
  struct_uses fields d all =
      All-append (UseFits census) (fields_usages field_type_usages d.fields) (methods_usages d.methods) (fields d)
      (type_uses d.methods d.special_method_presence d.usage (All-tail (PartFits census) (fields_part field_mentions d) (parts_of_type d.methods d.special_method_presence d.usage) all))

-- each definition of each kind fits
pub record EachLoweredFits (census : Census) (d : LoweredDefinitions) : Type 0 where
  pub out_structs : All (λ def. DefinitionFits census (parts_of_struct output_mentions def)) d.out_structs.items
  pub structs : All (λ def. DefinitionFits census (parts_of_struct field_mentions def)) d.structs.items
  pub opaques : All (λ def. DefinitionFits census (parts_of_opaque def)) d.opaques.items
  pub enums : All (λ def. DefinitionFits census (parts_of_enum def)) d.enums.items
  pub traits : All (λ def. DefinitionFits census (parts_of_trait def)) d.traits.items
  pub functions : All (λ def. DefinitionFits census (parts_of_function def)) d.functions.items

-- the laws of uses
pub record AreUseLaws (census : Census) : Type 0 where
  pub method : (m : Method) → PartFits census (method_part m) → All (UseFits census) (method_usages m)
  pub traits : (d : TraitDef) → PartFits census (free (trait_mentions d)) → All (UseFits census) (trait_usages d)
  pub fields : (d : InputStruct) → All (UseFits census) (fields_usages field_type_usages d.fields)
  pub out_fields : (d : OutputStruct) → All (UseFits census) (fields_usages output_usages d.fields)
  pub none : (structs out_structs opaques enums : ℕ) → UsagesFit census (unused_of structs out_structs opaques enums)
  pub noted : (us : List Used) (t : Usages) → All (UseFits census) us → UsagesFit census t → UsagesFit census (noted us t)

pub all_uses : (census : Census) → AreUseLaws census → (d : LoweredDefinitions) → EachLoweredFits census d → All (UseFits census) (all_usages d)
all_uses census laws d fit =
    let U = UseFits census in
    let outs = flat_map (struct_usages output_usages) d.out_structs.items in
    let ins = flat_map (struct_usages field_type_usages) d.structs.items in
    let opaques = flat_map (λ (def : OpaqueDef). methods_usages def.methods) d.opaques.items in
    let enums = flat_map (λ (def : EnumDef). methods_usages def.methods) d.enums.items in
    let traits = flat_map trait_usages d.traits.items in
    let functions = flat_map method_usages d.functions.items in
    All-append U ((((outs ++ ins) ++ opaques) ++ enums) ++ traits) functions
    (All-append U (((outs ++ ins) ++ opaques) ++ enums) traits
    (All-append U ((outs ++ ins) ++ opaques) enums
    (All-append U (outs ++ ins) opaques
    (All-append U outs ins
    (all_flat U (λ def. DefinitionFits census (parts_of_struct output_mentions def)) (struct_usages output_usages) (out_struct_uses census laws.method laws.out_fields) d.out_structs.items fit.out_structs)
    (all_flat U (λ def. DefinitionFits census (parts_of_struct field_mentions def)) (struct_usages field_type_usages) (struct_uses census laws.method laws.fields) d.structs.items fit.structs))
    (all_flat U (λ def. DefinitionFits census (parts_of_opaque def)) (λ (def : OpaqueDef). methods_usages def.methods)
    (λ def all. type_uses census laws.method def.methods def.special_method_presence def.usage all) d.opaques.items fit.opaques))
    (all_flat U (λ def. DefinitionFits census (parts_of_enum def)) (λ (def : EnumDef). methods_usages def.methods)
    (λ def all. type_uses census laws.method def.methods def.special_method_presence def.usage all) d.enums.items fit.enums))
    (all_flat U (λ def. DefinitionFits census (parts_of_trait def)) trait_usages
    (λ def all. laws.traits def (All-head (PartFits census) (free (trait_mentions def)) (free (usage_mentions def.usage) ∷ []) all)) d.traits.items fit.traits))
    (all_flat U (λ def. DefinitionFits census (parts_of_function def)) method_usages
    (λ m all. laws.method m (All-head (PartFits census) (method_part m) [] all)) d.functions.items fit.functions)

pub notes_fit : (census : Census) → AreUseLaws census → (d : LoweredDefinitions) → EachLoweredFits census d → UsagesFit census (usages_among d)
notes_fit census laws d fit =
    laws.noted (all_usages d) (unused_of (length d.structs.items) (length d.out_structs.items) (length d.opaques.items) (length d.enums.items)) (all_uses census laws d fit)
    (laws.none (length d.structs.items) (length d.out_structs.items) (length d.opaques.items) (length d.enums.items))
