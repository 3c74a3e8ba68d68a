-- One context stands for declarations: two that do are the same.
use Rattle.std.proofs.Common.{◌≡◌, ◌++◌, ℕ, List, length, Some, sym, ap, ◌∙◌}
use Rattle.std.specs.List.{flat_map}
use mathlib.Core.HLevel.{Σ_prop_path}
use native.Mathlib.Nat.{ℕ_set}
use Rattle.bridge_ast.specs.declared.place.ItemPlace.{ItemPlace}
use Rattle.bridge_decl.specs.declared.modules.Module.{Module}
use Rattle.bridge_places.specs.Places.{places_of}
use Rattle.bridge_places.specs.declared.kinds.Kind.TheVariants as kind
use Rattle.hir_context.specs.Lookups.{InputStruct, OutputStruct}
use Rattle.hir_context.specs.declared.parts.Definitions.{Definitions}
use Rattle.hir_context.specs.declared.parts.Listed.{Listed}
use Rattle.hir_definitions.specs.declared.definitions.EnumDef.{EnumDef}
use Rattle.hir_definitions.specs.declared.definitions.OpaqueDef.{OpaqueDef}
use Rattle.hir_definitions.specs.declared.definitions.TraitDef.{TraitDef}
use Rattle.hir_definitions.specs.declared.methods.Method.{Method}
use Rattle.hir_lower.specs.Contexts.{ListsItems, StandForItems}
use Rattle.hir_lowering.specs.Interface.{Interface}
use Rattle.hir_lowering.specs.Lowered.{AreAllLowered}
use Rattle.hir_usage.specs.Callbacks.{method_usages, output_usages}
use Rattle.hir_usage.specs.Definitions.{trait_usages}
use Rattle.hir_usage.specs.Tables.{Usages, noted, unused_of}
use Rattle.hir_usage_notes.specs.AllUses.{field_type_usages, methods_usages, struct_usages}
use Rattle.hir_usage_notes.specs.Notes.{each_used, enum_used, opaque_used, struct_used, usages_among}
use Rattle.hir_usage_notes.specs.declared.definitions.LoweredDefinitions.{LoweredDefinitions}

same_some : {A : Type 0} (x y : A) → Some x ≡ Some y → x ≡ y
same_some x y h = cc

-- ---- a list with the paths of its modules

abbrev Paths : Type 0
Paths = List (List (List ℕ))

module _ {D : Type 0} where
  -- by its parts, of which the last says no more than that they are as many
  abbrev of_parts : (p : (l : List D × Paths) × (length l.1 ≡ length l.0)) → Listed D
  of_parts p = record { defs = p.0.0; modules = p.0.1; each = p.1 }

  listed_same : (a b : Listed D) → a.defs ≡ b.defs → a.modules ≡ b.modules → a ≡ b
  listed_same a b defs paths =
      ap of_parts (Σ_prop_path {B = λ (l : List D × Paths). length l.1 ≡ length l.0} (λ l. ℕ_set (length l.1) (length l.0))
      {u = ((a.defs, a.modules), a.each)} {v = ((b.defs, b.modules), b.each)}
      (ap (λ (d : List D). (d, a.modules)) defs ∙ ap (λ (m : Paths). (b.defs, m)) paths))

  items_same : (modules : List Module) (places : List ItemPlace) (xs ys : List D) (a b : Listed D) → xs ≡ ys → ListsItems modules places xs a → ListsItems modules places ys b
      → a ≡ b
  items_same modules places xs ys a b same of_a of_b =
      listed_same a b (of_a.definitions ∙ same ∙ sym of_b.definitions) (of_a.paths ∙ sym of_b.paths)

-- ---- what is lowered

-- of these lists
module _ (outs : List OutputStruct) (ins : List InputStruct) (opaques : List OpaqueDef) (enums : List EnumDef) (traits : List TraitDef) (functions : List Method) where
  abbrev usages_of : Usages
  usages_of =
      noted (flat_map (struct_usages output_usages) outs ++ flat_map (struct_usages field_type_usages) ins ++ flat_map (λ def. methods_usages def.methods) opaques
      ++ flat_map (λ def. methods_usages def.methods) enums ++ flat_map trait_usages traits ++ flat_map method_usages functions)
      (unused_of (length ins) (length outs) (length opaques) (length enums))

-- the same lists in both
record Alike (c d : LoweredDefinitions) : Type 0 where
  outs : c.out_structs.items ≡ d.out_structs.items
  ins : c.structs.items ≡ d.structs.items
  opaques : c.opaques.items ≡ d.opaques.items
  enums : c.enums.items ≡ d.enums.items
  traits : c.traits.items ≡ d.traits.items
  functions : c.functions.items ≡ d.functions.items

lowered_alike : (it : Interface) (c d : LoweredDefinitions) → AreAllLowered it c → AreAllLowered it d → Alike c d
lowered_alike it c d a b = record {
  outs = same_some c.out_structs.items d.out_structs.items (sym a.out_structs ∙ b.out_structs);
  ins = same_some c.structs.items d.structs.items (sym a.structs ∙ b.structs);
  opaques = same_some c.opaques.items d.opaques.items (sym a.opaques ∙ b.opaques);
  enums = same_some c.enums.items d.enums.items (sym a.enums ∙ b.enums);
  traits = same_some c.traits.items d.traits.items (sym a.traits ∙ b.traits);
  functions = same_some c.functions.items d.functions.items (sym a.functions ∙ b.functions);
}

usages_alike : (c d : LoweredDefinitions) → Alike c d → usages_among c ≡ usages_among d
usages_alike c d a =
    ap (λ outs. usages_of outs c.structs.items c.opaques.items c.enums.items c.traits.items c.functions.items) a.outs
    ∙ ap (λ ins. usages_of d.out_structs.items ins c.opaques.items c.enums.items c.traits.items c.functions.items) a.ins
    ∙ ap (λ opaques. usages_of d.out_structs.items d.structs.items opaques c.enums.items c.traits.items c.functions.items) a.opaques
    ∙ ap (λ enums. usages_of d.out_structs.items d.structs.items d.opaques.items enums c.traits.items c.functions.items) a.enums
    ∙ ap (λ traits. usages_of d.out_structs.items d.structs.items d.opaques.items d.enums.items traits c.functions.items) a.traits
    ∙ ap (λ functions. usages_of d.out_structs.items d.structs.items d.opaques.items d.enums.items d.traits.items functions) a.functions

-- ---- the whole

abbrev definitions_of : Listed OutputStruct → Listed InputStruct → Listed OpaqueDef → Listed EnumDef → Listed TraitDef → Listed Method → Definitions
definitions_of outs ins opaques enums traits functions =
    record { out_structs = outs; structs = ins; opaques = opaques; enums = enums; traits = traits; functions = functions }

together : (o p : Listed OutputStruct) (i j : Listed InputStruct) (q r : Listed OpaqueDef) (e f : Listed EnumDef) (t u : Listed TraitDef) (g h : Listed Method)
    → o ≡ p → i ≡ j → q ≡ r → e ≡ f → t ≡ u → g ≡ h → definitions_of o i q e t g ≡ definitions_of p j r f u h
together o p i j q r e f t u g h is_o is_i is_q is_e is_t is_g =
    ap (λ x. definitions_of x i q e t g) is_o ∙ ap (λ x. definitions_of p x q e t g) is_i ∙ ap (λ x. definitions_of p j x e t g) is_q
    ∙ ap (λ x. definitions_of p j r x t g) is_e ∙ ap (λ x. definitions_of p j r f x g) is_t ∙ ap (λ x. definitions_of p j r f u x) is_g

pub one_context : (it : Interface) (a b : Definitions) → StandForItems it a → StandForItems it b → a ≡ b
one_context it a b of_a of_b =
    let alike = lowered_alike it of_a.lowered of_b.lowered of_a.accepted.all of_b.accepted.all in
    let uses = usages_alike of_a.lowered of_b.lowered alike in
    let c = of_a.lowered in
    let d = of_b.lowered in
    let outs = of_a.noted.out_structs ∙ ap (λ (u : Usages). each_used struct_used u.out_structs c.out_structs.items) uses
    ∙ ap (each_used struct_used (usages_among d).out_structs) alike.outs ∙ sym of_b.noted.out_structs in
    let ins = of_a.noted.structs ∙ ap (λ (u : Usages). each_used struct_used u.structs c.structs.items) uses
    ∙ ap (each_used struct_used (usages_among d).structs) alike.ins ∙ sym of_b.noted.structs in
    let opaques = of_a.noted.opaques ∙ ap (λ (u : Usages). each_used opaque_used u.opaques c.opaques.items) uses
    ∙ ap (each_used opaque_used (usages_among d).opaques) alike.opaques ∙ sym of_b.noted.opaques in
    let enums = of_a.noted.enums ∙ ap (λ (u : Usages). each_used enum_used u.enums c.enums.items) uses
    ∙ ap (each_used enum_used (usages_among d).enums) alike.enums ∙ sym of_b.noted.enums in
    let traits = of_a.noted.traits ∙ alike.traits ∙ sym of_b.noted.traits in
    let functions = of_a.noted.functions ∙ alike.functions ∙ sym of_b.noted.functions in
    together a.out_structs b.out_structs a.structs b.structs a.opaques b.opaques a.enums b.enums a.traits b.traits a.functions b.functions
    (items_same it.modules (places_of it.modules kind.OutStruct) of_a.used.out_structs.items of_b.used.out_structs.items a.out_structs b.out_structs outs of_a.listed.out_structs of_b.listed.out_structs)
    (items_same it.modules (places_of it.modules kind.Struct) of_a.used.structs.items of_b.used.structs.items a.structs b.structs ins of_a.listed.structs of_b.listed.structs)
    (items_same it.modules (places_of it.modules kind.Opaque) of_a.used.opaques.items of_b.used.opaques.items a.opaques b.opaques opaques of_a.listed.opaques of_b.listed.opaques)
    (items_same it.modules (places_of it.modules kind.Enum) of_a.used.enums.items of_b.used.enums.items a.enums b.enums enums of_a.listed.enums of_b.listed.enums)
    (items_same it.modules (places_of it.modules kind.Trait) of_a.used.traits.items of_b.used.traits.items a.traits b.traits traits of_a.listed.traits of_b.listed.traits)
    (items_same it.modules (places_of it.modules kind.Function) of_a.used.functions.items of_b.used.functions.items a.functions b.functions functions of_a.listed.functions of_b.listed.functions)
