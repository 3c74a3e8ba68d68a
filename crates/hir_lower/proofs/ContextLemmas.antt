-- The definitions of all items make a context: nothing in them is unfit.
use Rattle.std.proofs.Common.{◌≡◌, ◌<◌, ◌≤◌, ◌+◌, ℕ, List, [], ◌∷◌, Some, ap, arith, drop, get_or, inl, inr, length, map, refl, subst, sym, ◌∙◌}
use Rattle.std.specs.Prelude.{Err, IfSome, Ok, Result, slice_get}
use Rattle.std.specs.List.{All, enumerate_from}
use Rattle.std.proofs.lemmas.List.{drop_all, drop_more, length-map}
use Rattle.std.proofs.lemmas.List.Elements.{All-cons, All-head, All-tail}
use Rattle.std.proofs.lemmas.Option.{slice_get_cases}
use Rattle.bridge_ast.specs.declared.place.ItemPlace.{ItemPlace}
use Rattle.bridge_decl.specs.declared.enums.Enum.{Enum}
use Rattle.bridge_decl.specs.declared.functions.Function.{Function}
use Rattle.bridge_decl.specs.declared.modules.Module.{Module}
use Rattle.bridge_decl.specs.declared.structs.OpaqueType.{OpaqueType}
use Rattle.bridge_decl.specs.declared.structs.Struct.{Struct}
use Rattle.bridge_decl.specs.declared.traits.Trait.{Trait}
use Rattle.bridge_order.specs.declared.catalog.Catalog.{Catalog}
use Rattle.bridge_places.specs.Entries.{IsCatalog}
use Rattle.bridge_places.specs.Places.{places_of}
use Rattle.bridge_places.specs.declared.kinds.Kind.{Kind}
use Rattle.bridge_places.specs.declared.kinds.Kind.TheVariants as kind
use Rattle.hir_attrs.specs.declared.attrs.Attrs.{Attrs}
use Rattle.hir_backends.specs.Backend.{Backend}
use Rattle.hir_context.specs.Fitness.{IsUnfit, nesting_of}
use Rattle.hir_context.specs.Listing.{AreDefinitions, ListsPlaced}
use Rattle.hir_context.specs.declared.context.TypeContext.{TypeContext}
use Rattle.hir_context.specs.declared.parts.ContextParts.{ContextParts}
use Rattle.hir_context.specs.declared.parts.Definitions.{Definitions}
use Rattle.hir_context.specs.declared.parts.Listed.{Listed}
use Rattle.hir_context.specs.declared.parts.Placed.{Placed}
use Rattle.hir_definitions.specs.declared.methods.Method.{Method}
use Rattle.hir_definitions.specs.declared.special.SpecialMethodPresence.{SpecialMethodPresence}
use Rattle.hir_definitions.specs.declared.usage.TypingUseInfo.{TypingUseInfo}
use Rattle.hir_fitting.specs.Parts.{DefinitionFits, PartFits, fields_part, free, parts_of_enum, parts_of_function, parts_of_opaque, parts_of_struct, parts_of_trait, parts_of_type}
use Rattle.hir_fitting.specs.declared.census.Census.{Census}
use Rattle.hir_fitting.specs.declared.definitions.Unfit.{Unfit}
use Rattle.hir_ids.specs.declared.ids.TypeId.TheVariants as type
use Rattle.hir_items.specs.Enums.{enum_item_form}
use Rattle.hir_items.specs.FreeFunctions.{function_item_form}
use Rattle.hir_items.specs.Inheriting.{item_start}
use Rattle.hir_items.specs.Opaques.{opaque_item_form}
use Rattle.hir_items.specs.Setting.{Setting}
use Rattle.hir_items.specs.Structs.{out_struct_item_form, struct_item_form}
use Rattle.hir_config.specs.declared.config.LoweringConfig.{LoweringConfig}
use Rattle.hir_mentions.specs.Callbacks.{field_mentions, output_mentions}
use Rattle.hir_mentions.specs.Containing.{contained_in}
use Rattle.hir_mentions.specs.Definitions.{usage_mentions}
use Rattle.hir_mentions.specs.Mentions.{where_any}
use Rattle.hir_nesting.specs.Faults.{AllNestWell}
use Rattle.hir_nesting.specs.Structs.{containment, each_contained}
use Rattle.hir_nesting_rules.specs.LoweredContainment.{lowered_containment}
use Rattle.hir_number.specs.Naming.{IsNaming, Naming}
use Rattle.hir_traits.specs.Traits.{trait_form}
use Rattle.hir_types.specs.Paths.{returnable_id}
use Rattle.hir_usage_notes.specs.Notes.{HaveUsages, each_used, enum_used, opaque_used, struct_used, usages_among}
use Rattle.hir_usage_notes.specs.declared.definitions.LoweredDefinitions.{LoweredDefinitions}
use Rattle.hir_fitting_forms.specs.DeclaredCensus.{declared_census}
use Rattle.hir_fitting_forms.specs.DeclaredDefinitions.{EachFits, HaveDeclared}
use Rattle.hir_fitting_forms.specs.Naming.{NamesFit}
use Rattle.hir_fitting_forms.specs.Uses.{UsagesFit}
use Rattle.hir_lowering.specs.Interface.{AreNamed, Interface, setting_in}
use Rattle.hir_lowering.specs.Kinds.{ItemMaking, enum_made, function_made, opaque_made, out_struct_made, struct_made, trait_made}
use Rattle.hir_lowering.specs.Lowered.{AreAllLowered}
use Rattle.hir_lowering.specs.Placing.{each_form, form_at}
use Rattle.hir_lowering.specs.Walks.{interface_of}
use Rattle.hir_lower.specs.Acceptance.{AreAccepted, HoldsByCatalog}
use Rattle.hir_lower.specs.Contexts.{ListsAllItems, ListsItems, StandForItems}
use Rattle.hir_lower.specs.Placing.{path_of_place}
use Rattle.hir_lower.specs.inside.Parts.{AreParts, StandAtPlaces}
use Rattle.hir_lower.specs.declared.fault.LowerFault.{LowerFault}
use Rattle.hir_lower.specs.declared.fault.LowerFault.TheVariants as fault
use Rattle.hir_lower.specs.inside.Contexts.{AnswersContext, IsContextOf, UsedAs}
use Rattle.hir_lower.specs.inside.Telling.{AnswersAll}
use Rattle.hir_lower.proofs.ItemLemmas.{each_counted, each_good, enum_fits, function_fits, opaque_counted, opaque_fits, out_struct_counted, out_struct_fits, struct_counted, struct_fits, trait_counted, trait_fits}
use Rattle.hir_lower.proofs.NestingLemmas.{all_length}
use Rattle.hir_lower.proofs.UseLemmas.{AreUseLaws, EachLoweredFits, notes_fit, used_all, used_long, used_same}

-- ---- paths

-- the paths of numbers are those of the places in order
numbered_from :
    {D A X : Type 0} (f : X → List A) (all : List X) (k : ℕ) (ds : List D) → k + length ds ≡ length all
    → map (λ (n : ℕ × D). where_any f (slice_get all n.0)) (enumerate_from k ds) ≡ map f (drop k all)
numbered_from f all k [] many = let past : length all ≤ k = omega (arith, many) in ap (map f) (sym (drop_all k all past))
numbered_from {D} {A} {X} f all k (d ∷ ds) many = elim (slice_get_cases all k).1 [
  | inl here ↦
      let x : X = here.0 in
      let first : slice_get all k ≡ Some x = here.2 in
      let is : get_or all k x ≡ x = here.3 in
      let more : (k + 1) + length ds ≡ length all = grind (arith, many) in
      let path : (ℕ × D) → List A = λ n. where_any f (slice_get all n.0) in
      ap (λ o. where_any f o ∷ map path (enumerate_from (k + 1) ds)) first ∙ ap (λ rest. f x ∷ rest) (numbered_from f all (k + 1) ds more)
      ∙ ap (λ y. f y ∷ map f (drop (k + 1) all)) (sym is) ∙ ap (map f) (sym (drop_more all k x here.1))
  | inr past ↦ absurd (let few = past.0 in grind (arith, many, few))
]

pub lists_items :
    {D : Type 0} (modules : List Module) (places : List ItemPlace) (list : List D) (placed : List (Placed D)) (listed : Listed D)
    → length list ≡ length places → StandAtPlaces modules places list placed → ListsPlaced placed listed → ListsItems modules places list listed
lists_items modules places list placed listed many are lists = record {
  definitions = lists.defs ∙ are.defs;
  paths = lists.modules ∙ are.paths ∙ numbered_from (path_of_place modules) places 0 list (let zero_many : 0 + length list ≡ length places = omega (arith, many) in zero_many);
}

-- as many as there are items of the kind
made_many : {D : Type 0} (it : Interface) (made : ItemMaking D) (k : Kind) (ds : List D) → each_form it made (places_of it.modules k) ≡ Some ds → length ds ≡ length (places_of it.modules k)
made_many it made k ds is = all_length (map (form_at it made) (places_of it.modules k)) ds is ∙ length-map (places_of it.modules k) (form_at it made)

used_many : {D : Type 0} (note : TypingUseInfo → D → D) (us : List TypingUseInfo) (old new : List D) (n : ℕ) → new ≡ each_used note us old → length old ≡ n → length new ≡ n
used_many note us old new n is many = ap length is ∙ used_long note us old ∙ many

pub all_listed :
    (it : Interface) (lowered used : LoweredDefinitions) (parts : ContextParts) (defs : Definitions) → AreAllLowered it lowered → HaveUsages lowered used
    → AreParts it.modules used parts → AreDefinitions parts defs → ListsAllItems it.modules used defs
all_listed it lowered used parts defs all noted are lists =
    let us = usages_among lowered in
    let ms = it.modules in
    let at = λ (k : Kind). places_of ms k in
    record {
      out_structs = lists_items ms (at kind.OutStruct) used.out_structs.items parts.out_structs defs.out_structs
          (used_many struct_used us.out_structs _ _ _ noted.out_structs (made_many it out_struct_made kind.OutStruct _ all.out_structs)) are.out_structs lists.out_structs;
      structs = lists_items ms (at kind.Struct) used.structs.items parts.structs defs.structs
          (used_many struct_used us.structs _ _ _ noted.structs (made_many it struct_made kind.Struct _ all.structs)) are.structs lists.structs;
      opaques = lists_items ms (at kind.Opaque) used.opaques.items parts.opaques defs.opaques
          (used_many opaque_used us.opaques _ _ _ noted.opaques (made_many it opaque_made kind.Opaque _ all.opaques)) are.opaques lists.opaques;
      enums = lists_items ms (at kind.Enum) used.enums.items parts.enums defs.enums
          (used_many enum_used us.enums _ _ _ noted.enums (made_many it enum_made kind.Enum _ all.enums)) are.enums lists.enums;
      traits = lists_items ms (at kind.Trait) used.traits.items parts.traits defs.traits
          (ap length noted.traits ∙ made_many it trait_made kind.Trait _ all.traits) are.traits lists.traits;
      functions = lists_items ms (at kind.Function) used.functions.items parts.functions defs.functions
          (ap length noted.functions ∙ made_many it function_made kind.Function _ all.functions) are.functions lists.functions;
    }

-- ---- fitting

-- the laws of what items are lowered to
pub record AreItemLaws (census : Census) : Type 0 where
  pub out_structs : (s : Setting) (place : ItemPlace) (set : Attrs) (i : Struct) → NamesFit census s.catalog s.names → IfSome (out_struct_item_form s place set i) (λ d. DefinitionFits census (parts_of_struct output_mentions d))
  pub structs : (s : Setting) (place : ItemPlace) (set : Attrs) (i : Struct) → NamesFit census s.catalog s.names → IfSome (struct_item_form s place set i) (λ d. DefinitionFits census (parts_of_struct field_mentions d))
  pub opaques : (s : Setting) (place : ItemPlace) (set : Attrs) (i : OpaqueType) → NamesFit census s.catalog s.names → IfSome (opaque_item_form s place set i) (λ d. DefinitionFits census (parts_of_opaque d))
  pub enums : (s : Setting) (place : ItemPlace) (set : Attrs) (i : Enum) → NamesFit census s.catalog s.names → IfSome (enum_item_form s place set i) (λ d. DefinitionFits census (parts_of_enum d))
  pub traits : (s : Setting) (place : ItemPlace) (set : Attrs) (i : Trait) → NamesFit census s.catalog s.names
      → IfSome (trait_form s.backend s.catalog s.names place (item_start set) i) (λ d. DefinitionFits census (parts_of_trait d))
  pub functions : (s : Setting) (set : Attrs) (i : Function) → NamesFit census s.catalog s.names → IfSome (function_item_form s set i) (λ d. DefinitionFits census (parts_of_function d))

-- a definition keeps fitting once its use is noted
abbrev pub UsedFits : Census → Type 0
UsedFits census =
    (methods : List Method) (special : SpecialMethodPresence) (before after : TypingUseInfo) → PartFits census (free (usage_mentions after))
    → DefinitionFits census (parts_of_type methods special before) → DefinitionFits census (parts_of_type methods special after)

abbrev pub PathsLead : List Module → Type 0
PathsLead modules = (catalog : Catalog) (number : ℕ) (names : Naming) → IsCatalog modules catalog → IsNaming modules number names → NamesFit (declared_census modules) catalog names

pub lowered_fit : (it : Interface) (d : LoweredDefinitions) → IsCatalog it.modules it.catalog → AreNamed it.modules it.names → PathsLead it.modules
    → AreItemLaws (declared_census it.modules) → AreAllLowered it d → EachLoweredFits (declared_census it.modules) d
lowered_fit it d is named lead laws all =
    let census = declared_census it.modules in
    let fit : (n : ℕ) → n < length it.modules → NamesFit census it.catalog (it.names n) = λ n within. lead it.catalog n (it.names n) is (named n within) in
    record {
      out_structs = each_good it out_struct_made (λ def. DefinitionFits census (parts_of_struct output_mentions def))
          (λ n within. out_struct_fits census laws.out_structs (setting_in it n) (fit n within)) (places_of it.modules kind.OutStruct) d.out_structs.items all.out_structs;
      structs = each_good it struct_made (λ def. DefinitionFits census (parts_of_struct field_mentions def))
          (λ n within. struct_fits census laws.structs (setting_in it n) (fit n within)) (places_of it.modules kind.Struct) d.structs.items all.structs;
      opaques = each_good it opaque_made (λ def. DefinitionFits census (parts_of_opaque def))
          (λ n within. opaque_fits census laws.opaques (setting_in it n) (fit n within)) (places_of it.modules kind.Opaque) d.opaques.items all.opaques;
      enums = each_good it enum_made (λ def. DefinitionFits census (parts_of_enum def))
          (λ n within. enum_fits census laws.enums (setting_in it n) (fit n within)) (places_of it.modules kind.Enum) d.enums.items all.enums;
      traits = each_good it trait_made (λ def. DefinitionFits census (parts_of_trait def))
          (λ n within. trait_fits census laws.traits (setting_in it n) (fit n within)) (places_of it.modules kind.Trait) d.traits.items all.traits;
      functions = each_good it function_made (λ def. DefinitionFits census (parts_of_function def))
          (λ n within. function_fits census laws.functions (setting_in it n) (fit n within)) (places_of it.modules kind.Function) d.functions.items all.functions;
    }

pub used_fit : (census : Census) (old new : LoweredDefinitions) → UsedFits census → UsagesFit census (usages_among old) → EachLoweredFits census old → HaveUsages old new → EachLoweredFits census new
used_fit census old new keeps good fit noted =
    let Good : TypingUseInfo → Type 0 = λ info. PartFits census (free (usage_mentions info)) in
    let us = usages_among old in
    record {
      out_structs = subst (All (λ def. DefinitionFits census (parts_of_struct output_mentions def))) (sym noted.out_structs)
          (used_all (λ def. DefinitionFits census (parts_of_struct output_mentions def)) Good struct_used
          (λ u def h all. All-cons (PartFits census) (fields_part output_mentions def) (parts_of_type def.methods def.special_method_presence u)
          (All-head (PartFits census) (fields_part output_mentions def) (parts_of_type def.methods def.special_method_presence def.usage) all)
          (keeps def.methods def.special_method_presence def.usage u h (All-tail (PartFits census) (fields_part output_mentions def) (parts_of_type def.methods def.special_method_presence def.usage) all)))
          us.out_structs old.out_structs.items good.out_structs fit.out_structs);
      structs = subst (All (λ def. DefinitionFits census (parts_of_struct field_mentions def))) (sym noted.structs)
          (used_all (λ def. DefinitionFits census (parts_of_struct field_mentions def)) Good struct_used
          (λ u def h all. All-cons (PartFits census) (fields_part field_mentions def) (parts_of_type def.methods def.special_method_presence u)
          (All-head (PartFits census) (fields_part field_mentions def) (parts_of_type def.methods def.special_method_presence def.usage) all)
          (keeps def.methods def.special_method_presence def.usage u h (All-tail (PartFits census) (fields_part field_mentions def) (parts_of_type def.methods def.special_method_presence def.usage) all)))
          us.structs old.structs.items good.structs fit.structs);
      opaques = subst (All (λ def. DefinitionFits census (parts_of_opaque def))) (sym noted.opaques)
          (used_all (λ def. DefinitionFits census (parts_of_opaque def)) Good opaque_used
          (λ u def h all. keeps def.methods def.special_method_presence def.usage u h all) us.opaques old.opaques.items good.opaques fit.opaques);
      enums = subst (All (λ def. DefinitionFits census (parts_of_enum def))) (sym noted.enums)
          (used_all (λ def. DefinitionFits census (parts_of_enum def)) Good enum_used
          (λ u def h all. keeps def.methods def.special_method_presence def.usage u h all) us.enums old.enums.items good.enums fit.enums);
      traits = subst (All (λ def. DefinitionFits census (parts_of_trait def))) (sym noted.traits) fit.traits;
      functions = subst (All (λ def. DefinitionFits census (parts_of_function def))) (sym noted.functions) fit.functions;
    }

-- so of a context that lists them
pub listed_fit : (census : Census) (modules : List Module) (d : LoweredDefinitions) (defs : Definitions) → EachLoweredFits census d → ListsAllItems modules d defs → EachFits census defs
listed_fit census modules d defs fit listed = record {
  out_structs = subst (All (λ def. DefinitionFits census (parts_of_struct output_mentions def))) (sym listed.out_structs.definitions) fit.out_structs;
  structs = subst (All (λ def. DefinitionFits census (parts_of_struct field_mentions def))) (sym listed.structs.definitions) fit.structs;
  opaques = subst (All (λ def. DefinitionFits census (parts_of_opaque def))) (sym listed.opaques.definitions) fit.opaques;
  enums = subst (All (λ def. DefinitionFits census (parts_of_enum def))) (sym listed.enums.definitions) fit.enums;
  traits = subst (All (λ def. DefinitionFits census (parts_of_trait def))) (sym listed.traits.definitions) fit.traits;
  functions = subst (All (λ def. DefinitionFits census (parts_of_function def))) (sym listed.functions.definitions) fit.functions;
}

-- ---- what is declared

pub have_declared : (it : Interface) (lowered used : LoweredDefinitions) (defs : Definitions) → AreAllLowered it lowered → HaveUsages lowered used → ListsAllItems it.modules used defs
    → HaveDeclared it.modules defs
have_declared it lowered used defs all noted listed =
    let us = usages_among lowered in
    record {
      out_structs = ap (map (λ def. def.lifetimes.count)) (listed.out_structs.definitions ∙ noted.out_structs) ∙ used_same struct_used (λ def. def.lifetimes.count) (λ u def. refl) us.out_structs lowered.out_structs.items
          ∙ each_counted it out_struct_made (λ def. def.lifetimes.count) (λ n. out_struct_counted (setting_in it n)) kind.OutStruct lowered.out_structs.items all.out_structs;
      structs = ap (map (λ def. def.lifetimes.count)) (listed.structs.definitions ∙ noted.structs) ∙ used_same struct_used (λ def. def.lifetimes.count) (λ u def. refl) us.structs lowered.structs.items
          ∙ each_counted it struct_made (λ def. def.lifetimes.count) (λ n. struct_counted (setting_in it n)) kind.Struct lowered.structs.items all.structs;
      opaques = ap (map (λ def. def.lifetimes.count)) (listed.opaques.definitions ∙ noted.opaques) ∙ used_same opaque_used (λ def. def.lifetimes.count) (λ u def. refl) us.opaques lowered.opaques.items
          ∙ each_counted it opaque_made (λ def. def.lifetimes.count) (λ n. opaque_counted (setting_in it n)) kind.Opaque lowered.opaques.items all.opaques;
      traits = ap (map (λ def. def.lifetimes.count)) (listed.traits.definitions ∙ noted.traits)
          ∙ each_counted it trait_made (λ def. def.lifetimes.count) (λ n. trait_counted (setting_in it n)) kind.Trait lowered.traits.items all.traits;
      enums = ap length (listed.enums.definitions ∙ noted.enums) ∙ used_long enum_used us.enums lowered.enums.items ∙ made_many it enum_made kind.Enum lowered.enums.items all.enums;
      functions = ap length (listed.functions.definitions ∙ noted.functions) ∙ made_many it function_made kind.Function lowered.functions.items all.functions;
    }

-- structs nest as they did
pub still_nested : (modules : List Module) (lowered used : LoweredDefinitions) (defs : Definitions) → HaveUsages lowered used → ListsAllItems modules used defs
    → AllNestWell (lowered_containment lowered) → AllNestWell (nesting_of defs)
still_nested modules lowered used defs noted listed well =
    let us = usages_among lowered in
    let outs : each_contained returnable_id defs.out_structs.defs ≡ each_contained returnable_id lowered.out_structs.items =
    ap (each_contained returnable_id) (listed.out_structs.definitions ∙ noted.out_structs)
    ∙ used_same struct_used (λ def. contained_in returnable_id def.fields) (λ u def. refl) us.out_structs lowered.out_structs.items
    in
    let ins : each_contained (λ path. type.Struct path.tcx_id) defs.structs.defs ≡ each_contained (λ path. type.Struct path.tcx_id) lowered.structs.items =
    ap (each_contained (λ path. type.Struct path.tcx_id)) (listed.structs.definitions ∙ noted.structs)
    ∙ used_same struct_used (λ def. contained_in (λ path. type.Struct path.tcx_id) def.fields) (λ u def. refl) us.structs lowered.structs.items
    in
    subst AllNestWell (sym (ap (λ o. containment o (each_contained (λ path. type.Struct path.tcx_id) defs.structs.defs)) outs ∙ ap (containment (each_contained returnable_id lowered.out_structs.items)) ins)) well

-- ---- all of it

-- the laws that this stands on
pub record AreFittingLaws (modules : List Module) : Type 0 where
  pub lead : PathsLead modules
  pub items : AreItemLaws (declared_census modules)
  pub uses : AreUseLaws (declared_census modules)
  pub used : UsedFits (declared_census modules)
  pub fit : (defs : Definitions) (unfit : Unfit) → HaveDeclared modules defs → EachFits (declared_census modules) defs → AllNestWell (nesting_of defs) → ¬ (IsUnfit defs unfit)

pub nothing_unfit : (it : Interface) (defs : Definitions) (unfit : Unfit) → AreFittingLaws it.modules → IsCatalog it.modules it.catalog → AreNamed it.modules it.names
    → StandForItems it defs → ¬ (IsUnfit defs unfit)
nothing_unfit it defs unfit laws is named stands =
    let census = declared_census it.modules in
    let all = stands.accepted.all in
    let fit = lowered_fit it stands.lowered is named laws.lead laws.items all in
    let still = used_fit census stands.lowered stands.used laws.used (notes_fit census laws.uses stands.lowered fit) fit stands.noted in
    laws.fit defs unfit (have_declared it stands.lowered stands.used defs all stands.noted stands.listed)
    (listed_fit census it.modules stands.used defs still stands.listed)
    (still_nested it.modules stands.lowered stands.used defs stands.noted stands.listed stands.accepted.nested)

pub stands : (it : Interface) (d : LoweredDefinitions) (defs : Definitions) → AreAccepted it d → UsedAs it.modules d defs → StandForItems it defs
stands it d defs accepted given = record {
  lowered = d;
  accepted = accepted;
  used = given.used;
  noted = given.noted;
  listed = all_listed it d given.used given.placed.parts defs accepted.all given.noted given.placed.are given.placed.lists;
}

-- what is told is told of the context too
pub still_refused : (modules : List Module) (backend : Backend) (config : LoweringConfig) (names : ℕ → Naming) (f : LowerFault)
    → AnswersAll modules backend config names (Err f) → AnswersContext modules backend config names (Err f)
still_refused modules backend config names (fault.Refused told) answers = answers
still_refused modules backend config names fault.NoMemory answers = tt

pub context_answered :
    (modules : List Module) (backend : Backend) (config : LoweringConfig) (names : ℕ → Naming) (d : LoweredDefinitions) → AreNamed modules names
    → ((it : Interface) (defs : Definitions) (unfit : Unfit) → IsCatalog it.modules it.catalog → AreNamed it.modules it.names → StandForItems it defs → ¬ (IsUnfit defs unfit))
    → HoldsByCatalog modules backend config names (λ it. AreAccepted it d) → (result : Result TypeContext LowerFault) → IsContextOf (UsedAs modules d) result
    → AnswersContext modules backend config names result
context_answered modules backend config names d named law by (Ok tcx) given =
    record { catalog = by.catalog; is = by.is; holds = stands (interface_of modules backend config names by.catalog) d tcx.definitions by.holds given }
context_answered modules backend config names d named law by (Err (fault.Refused told)) has =
    let it = interface_of modules backend config names by.catalog in
    absurd (law it has.defs has.unfit by.is named (stands it d has.defs by.holds has.such) has.is)
context_answered modules backend config names d named law by (Err fault.NoMemory) given = tt

-- such definitions are other such definitions
pub weaker_context : (P Q : Definitions → Type 0) → ((defs : Definitions) → P defs → Q defs) → (result : Result TypeContext LowerFault) → IsContextOf P result → IsContextOf Q result
weaker_context P Q gives (Ok tcx) is = gives tcx.definitions is
weaker_context P Q gives (Err (fault.Refused told)) has = record { defs = has.defs; such = gives has.defs has.such; unfit = has.unfit; is = has.is }
weaker_context P Q gives (Err fault.NoMemory) is = tt
