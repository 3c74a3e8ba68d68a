-- Definitions fit where their parts do, and those of declarations name what is there.
use Rattle.std.proofs.Common.{◌≡◌, ℕ, List, [], ◌∷◌, ◌++◌, map, Some, None, sym, subst}
use Rattle.std.specs.Prelude.{slice_get}
use Rattle.std.specs.List.{All}
use Rattle.std.proofs.lemmas.List.Elements.{All-append, All-cons, All-head, All-map, All-nil, All-tail}
use Rattle.bridge_decl.specs.declared.modules.Module.{Module}
use Rattle.bridge_order.proofs.OrderLemmas.{all_got}
use Rattle.hir_context.proofs.Naming.{none_unfit}
use Rattle.hir_context.specs.Fitness.{AllNamed, IsUnfit, census_of, nesting_of, parts_at}
use Rattle.hir_context.specs.declared.parts.Definitions.{Definitions}
use Rattle.hir_definitions.specs.Usage.{unused}
use Rattle.hir_definitions.specs.declared.definitions.StructDef.{StructDef}
use Rattle.hir_definitions.specs.declared.definitions.TraitDef.{TraitDef}
use Rattle.hir_definitions.specs.declared.methods.Method.{Method}
use Rattle.hir_definitions.specs.declared.special.SpecialMethodPresence.{SpecialMethodPresence}
use Rattle.hir_definitions.specs.declared.usage.TypingUseInfo.{TypingUseInfo}
use Rattle.hir_fitting.specs.Fitting.{Fits}
use Rattle.hir_fitting.specs.Parts.{DefinitionFits, Part, PartFits, fields_part, free, method_part, parts_of_enum, parts_of_function, parts_of_opaque, parts_of_struct, parts_of_trait, parts_of_type}
use Rattle.hir_fitting.specs.declared.census.Census.{Census}
use Rattle.hir_fitting.specs.declared.definitions.Unfit.{Unfit}
use Rattle.hir_ids.specs.declared.ids.SymbolId.{SymbolId}
use Rattle.hir_ids.specs.declared.ids.SymbolId.TheVariants as symbol
use Rattle.hir_ids.specs.declared.ids.TypeId.TheVariants as type
use Rattle.hir_mentions.specs.Callbacks.{field_mentions, output_mentions}
use Rattle.hir_mentions.specs.Definitions.{fields_mentions, special_mentions, trait_mentions, usage_mentions}
use Rattle.hir_mentions.specs.Mentions.{Mentioned}
use Rattle.hir_nesting.specs.Faults.{AllNestWell}
use Rattle.hir_presence.specs.Presence.{special_methods}
use Rattle.hir_types.specs.declared.types.HirType.{HirType}
use Rattle.hir_fitting_forms.specs.DeclaredCensus.{declared_census}
use Rattle.hir_fitting_forms.specs.DeclaredDefinitions.{EachFits, HaveDeclared}
use Rattle.hir_fitting_forms.proofs.Special.{special_fit}

module _ (census : Census) where
  -- how definitions are used names nothing at first
  nothing_fits : PartFits census (free [])
  nothing_fits = All-nil (Fits census None)

  two_fit : (special usage : Part) → PartFits census special → PartFits census usage → All (PartFits census) (special ∷ usage ∷ [])
  two_fit special usage h k = All-cons (PartFits census) special (usage ∷ []) h (All-cons (PartFits census) usage [] k (All-nil (PartFits census)))

  type_parts : (methods : List Method) (special usage : Part) → All (λ m. PartFits census (method_part m)) methods → PartFits census special → PartFits census usage
      → All (PartFits census) (map method_part methods ++ special ∷ usage ∷ [])
  type_parts methods special usage all h k =
      All-append (PartFits census) (map method_part methods) (special ∷ usage ∷ []) (All-map (PartFits census) method_part methods all) (two_fit special usage h k)

  pub type_whole : (methods : List Method) → All (λ m. PartFits census (method_part m)) methods → DefinitionFits census (parts_of_type methods (special_methods methods) unused)
  type_whole methods all = type_parts methods (free (special_mentions (special_methods methods))) (free (usage_mentions unused)) all (special_fit census methods all) nothing_fits

  -- the last part is another
  last_changed : (first : List Part) (special before after : Part) → PartFits census after → All (PartFits census) (first ++ special ∷ before ∷ []) → All (PartFits census) (first ++ special ∷ after ∷ [])
  last_changed [] special before after h all = two_fit special after (All-head (PartFits census) special (before ∷ []) all) h
  last_changed (p ∷ first) special before after h all =
      All-cons (PartFits census) p (first ++ special ∷ after ∷ []) (All-head (PartFits census) p (first ++ special ∷ before ∷ []) all)
      (last_changed first special before after h (All-tail (PartFits census) p (first ++ special ∷ before ∷ []) all))

  pub used_whole : (methods : List Method) (special : SpecialMethodPresence) (before after : TypingUseInfo) → PartFits census (free (usage_mentions after))
      → DefinitionFits census (parts_of_type methods special before) → DefinitionFits census (parts_of_type methods special after)
  used_whole methods special before after h all = last_changed (map method_part methods) (free (special_mentions special)) (free (usage_mentions before)) (free (usage_mentions after)) h all

  pub struct_whole : {P C O I S T : Type 0} (of_type : HirType P C O I S T → List Mentioned) (def : StructDef P C O I S T) → All (Fits census (Some def.lifetimes.count)) (fields_mentions of_type def.fields)
      → DefinitionFits census (parts_of_type def.methods def.special_method_presence def.usage) → DefinitionFits census (parts_of_struct of_type def)
  struct_whole of_type def fields all = All-cons (PartFits census) (fields_part of_type def) (parts_of_type def.methods def.special_method_presence def.usage) fields all

  pub trait_whole : (def : TraitDef) → PartFits census (free (trait_mentions def)) → PartFits census (free (usage_mentions def.usage)) → DefinitionFits census (parts_of_trait def)
  trait_whole def h k = two_fit (free (trait_mentions def)) (free (usage_mentions def.usage)) h k

  -- what holds of each definition holds of that at a place
  one_of : {D : Type 0} (parts_of : D → List Part) (defs : List D) (place : ℕ) (parts : List Part) → All (λ def. DefinitionFits census (parts_of def)) defs
      → slice_get (map parts_of defs) place ≡ Some parts → DefinitionFits census parts
  one_of parts_of defs place parts all is = all_got (DefinitionFits census) (map parts_of defs) place parts (All-map (DefinitionFits census) parts_of defs all) is

  at_id : (defs : Definitions) → EachFits census defs → (id : SymbolId) (parts : List Part) → parts_at defs id ≡ Some parts → DefinitionFits census parts
  at_id defs each (symbol.TypeId (type.OutStruct place)) parts is = one_of (parts_of_struct output_mentions) defs.out_structs.defs place parts each.out_structs is
  at_id defs each (symbol.TypeId (type.Struct place)) parts is = one_of (parts_of_struct field_mentions) defs.structs.defs place parts each.structs is
  at_id defs each (symbol.TypeId (type.Opaque place)) parts is = one_of parts_of_opaque defs.opaques.defs place parts each.opaques is
  at_id defs each (symbol.TypeId (type.Enum place)) parts is = one_of parts_of_enum defs.enums.defs place parts each.enums is
  at_id defs each (symbol.TraitId place) parts is = one_of parts_of_trait defs.traits.defs place parts each.traits is
  at_id defs each (symbol.FunctionId place) parts is = one_of parts_of_function defs.functions.defs place parts each.functions is

same_census : (modules : List Module) (defs : Definitions) → HaveDeclared modules defs → census_of defs ≡ declared_census modules
same_census modules defs have = λ i. record {
  out_structs = have.out_structs i;
  structs = have.structs i;
  opaques = have.opaques i;
  traits = have.traits i;
  enums = have.enums i;
  functions = have.functions i;
}

pub all_named : (modules : List Module) (defs : Definitions) → HaveDeclared modules defs → EachFits (declared_census modules) defs → AllNamed defs
all_named modules defs have each id parts is = subst (λ census. DefinitionFits census parts) (sym (same_census modules defs have)) (at_id (declared_census modules) defs each id parts is)

pub all_fit : (modules : List Module) (defs : Definitions) (unfit : Unfit) → HaveDeclared modules defs → EachFits (declared_census modules) defs → AllNestWell (nesting_of defs) → ¬ (IsUnfit defs unfit)
all_fit modules defs unfit have each well is = none_unfit defs unfit (record { named = all_named modules defs have each; nested = well }) is
