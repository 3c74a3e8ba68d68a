-- Both readings agree: of the definitions of all items of declarations.
use Rattle.std.proofs.Common.{◌≡◌, ℕ, List, [], ◌∷◌, ◌++◌, map, Bool, true, false, Option, Some, None, if◌then◌else◌, refl, sym, ap, subst, ◌∙◌}
use Rattle.std.specs.Prelude.{option_and_then, slice_get}
use Rattle.std.specs.List.{AllZip}
use Rattle.std.proofs.lemmas.List.{map-append}
use Rattle.bridge_ast.specs.Types.{item_of}
use Rattle.bridge_ast.specs.declared.place.ItemPlace.{ItemPlace}
use Rattle.bridge_decl.specs.declared.modules.Item.{Item}
use Rattle.bridge_decl.specs.declared.modules.Item.TheVariants as item
use Rattle.bridge_decl.specs.declared.modules.Module.{Module}
use Rattle.bridge_decl.specs.declared.structs.Struct.{Struct}
use Rattle.bridge_order.specs.Catalog.{entry_at, id_of}
use Rattle.bridge_order.specs.declared.catalog.Entry.{Entry}
use Rattle.bridge_places.specs.Entries.{Describes, IsCatalog, entry_of_struct, has_fields}
use Rattle.bridge_places.specs.Places.{places_of}
use Rattle.bridge_places.specs.declared.kinds.Kind.TheVariants as kind
use Rattle.hir_context.specs.Lookups.{InputStruct}
use Rattle.hir_definitions.specs.declared.definitions.EnumDef.{EnumDef}
use Rattle.hir_definitions.specs.declared.definitions.OpaqueDef.{OpaqueDef}
use Rattle.hir_definitions.specs.declared.methods.Method.{Method}
use Rattle.hir_definitions.specs.declared.methods.Param.{Param}
use Rattle.hir_definitions.specs.declared.methods.ParamSelf.{ParamSelf}
use Rattle.hir_ids.specs.declared.ids.TypeId.{TypeId}
use Rattle.hir_lowering.specs.Interface.{Interface, setting_in}
use Rattle.hir_lowering.specs.Kinds.{enum_made, function_made, opaque_made, out_struct_made, struct_made}
use Rattle.hir_lowering.specs.Lowered.{AreAllLowered}
use Rattle.hir_lowering.specs.Placing.{beside_module, each_form, form_at, found_at}
use Rattle.hir_mentions.specs.Mentions.{where_any}
use Rattle.hir_modules.specs.ModuleMarks.{module_marks}
use Rattle.hir_number.specs.declared.signature.NumberedSignature.{NumberedSignature}
use Rattle.hir_skeleton.specs.Inputs.{method_inputs, param_skeleton}
use Rattle.hir_skeleton.specs.Leaves.{from_fields, in_field, input_leaves}
use Rattle.hir_skeleton.specs.Lowered.{input_fields, receiver_skeleton}
use Rattle.hir_skeleton.specs.Skeletons.{Skeleton}
use Rattle.hir_usage_notes.specs.declared.definitions.LoweredDefinitions.{LoweredDefinitions}
use Rattle.hir_readings.specs.Declared.{declared_fields, declared_function, declared_methods, found_fields, method_signature, struct_skeletons}
use Rattle.hir_readings.specs.Inputs.{Input, edges_of_inputs, leaves_of_inputs, lowered_input, lowered_inputs, numbered_inputs, lowered_receiver}
use Rattle.hir_readings.specs.Knowing.{id_there, known_as, type_id_of}
use Rattle.hir_readings.specs.Readings.{AreReadAsDeclared, IsFunctionRead, IsReadAsDeclared, IsReadLike, fields_among}
use Rattle.hir_readings.proofs.ItemLemmas.{HaveDeclared, enum_methods_at, fields_at, function_at, opaque_methods_at, out_struct_methods_at, struct_methods_at}
use Rattle.hir_readings.proofs.JoinLemmas.{all_zipped, known_made, zipped_at, zipped_more}
use Rattle.hir_readings.proofs.KnowingLemmas.{input_edges_known, inputs_known}
use Rattle.hir_readings.proofs.MethodLemmas.{HasDeclared, HasFunction, HasInputs}

-- ---- what is found

-- the item at a place is what is found there
abbrev pub FoundAs : Option Item → Option (Module × Item) → Type 0
FoundAs None found = found ≡ None
FoundAs (Some i) found = (owner : Module) × (found ≡ Some (owner, i))

beside : (owner : Module) (o : Option Item) → FoundAs o (beside_module owner o)
beside owner None = refl
beside owner (Some i) = (owner, refl)

found_in : (place : ItemPlace) (o : Option Module) → FoundAs (option_and_then (λ m. slice_get m.items place.item) o) (option_and_then (λ m. beside_module m (slice_get m.items place.item)) o)
found_in place None = refl
found_in place (Some owner) = beside owner (slice_get owner.items place.item)

pub found : (modules : List Module) (place : ItemPlace) → FoundAs (item_of modules place) (found_at modules place)
found modules place = found_in place (slice_get modules place.«module»)

module _ (it : Interface) where
  abbrev known : Skeleton ItemPlace → Skeleton TypeId
  known = known_as (id_there it.catalog)

  -- ---- fields

  abbrev HasFields : InputStruct → ItemPlace → Type 0
  HasFields def place = input_fields def ≡ map known (declared_fields it place)

  module _ (structs : List InputStruct) (all : AllZip HasFields structs (places_of it.modules kind.Struct)) (is_catalog : IsCatalog it.modules it.catalog) where
    among : (id : ℕ) (place : ItemPlace) → slice_get (places_of it.modules kind.Struct) id ≡ Some place → where_any input_fields (slice_get structs id) ≡ map known (declared_fields it place)
    among id place at =
        let beside = zipped_at HasFields structs (places_of it.modules kind.Struct) all id place at in
        subst (λ o. where_any input_fields o ≡ map known (declared_fields it place)) (sym beside.1.0) beside.1.1

    -- where this is declared at a place, what has its id has these fields
    abbrev HasAll : ItemPlace → Option (Module × Item) → Entry → Type 0
    HasAll place o e = fields_among structs (type_id_of e) ≡ map known (where_any (found_fields it place) o)

    struct_has : (place : ItemPlace) (owner : Module) (declared : Struct) (id : ℕ) (has : Bool) (out : Bool) → declared.output_only ≡ out → found_at it.modules place ≡ Some (owner, item.Struct declared)
        → slice_get (places_of it.modules (if out then kind.OutStruct else kind.Struct)) id ≡ Some place → HasAll place (Some (owner, item.Struct declared)) (entry_of_struct id out has)
    struct_has place owner declared id has true out_is found_is at =
        subst (λ b. [] ≡ map known (if b then [] else struct_skeletons (setting_in it place.«module») (module_marks it.backend it.modules owner) declared)) (sym out_is) refl
    struct_has place owner declared id has false out_is found_is at =
        among id place at ∙ ap (λ o. map known (where_any (found_fields it place) o)) found_is

    item_has : (place : ItemPlace) (owner : Module) (i : Item) → found_at it.modules place ≡ Some (owner, i) → Describes it.modules i place (entry_at it.catalog place) → HasAll place (Some (owner, i)) (entry_at it.catalog place)
    item_has place owner (item.Struct declared) found_is described =
        subst (HasAll place (Some (owner, item.Struct declared))) (sym described.is)
        (struct_has place owner declared (id_of (entry_at it.catalog place)) (has_fields declared.fields) declared.output_only refl found_is described.number)
    item_has place owner (item.Opaque declared) found_is described = subst (HasAll place (Some (owner, item.Opaque declared))) (sym described.is) refl
    item_has place owner (item.Enum declared) found_is described = subst (HasAll place (Some (owner, item.Enum declared))) (sym described.is) refl
    item_has place owner (item.Trait declared) found_is described = subst (HasAll place (Some (owner, item.Trait declared))) (sym described.is) refl
    item_has place owner (item.Function declared) found_is described = subst (HasAll place (Some (owner, item.Function declared))) (sym described.is) refl

    place_has : (place : ItemPlace) (o : Option Item) → item_of it.modules place ≡ o → FoundAs o (found_at it.modules place) → HasAll place (found_at it.modules place) (entry_at it.catalog place)
    place_has place None is none =
        subst (λ f. HasAll place f (entry_at it.catalog place)) (sym none) (subst (HasAll place None) (sym (is_catalog.others place is)) refl)
    place_has place (Some i) is (owner, found_is) =
        subst (λ f. HasAll place f (entry_at it.catalog place)) (sym found_is) (item_has place owner i found_is (is_catalog.entries place i is))

    pub all_fields : (place : ItemPlace) → fields_among structs (id_there it.catalog place) ≡ map known (declared_fields it place)
    all_fields place = place_has place (item_of it.modules place) refl (found it.modules place)

  -- ---- methods, where it is known which fields structs have

  module _ (fields_of : TypeId → List (Skeleton TypeId)) (agree : (place : ItemPlace) → fields_of (id_there it.catalog place) ≡ map known (declared_fields it place)) where
    first_skeletons : (o : Option ParamSelf) → where_any (λ receiver. receiver_skeleton receiver.ty ∷ []) o ≡ map (λ (input : Input TypeId). input.skeleton) (where_any (λ receiver. lowered_receiver receiver.ty ∷ []) o)
    first_skeletons None = refl
    first_skeletons (Some receiver) = refl

    param_skeletons : (params : List Param) → map (λ param. param_skeleton param.ty) params ≡ map (λ (input : Input TypeId). input.skeleton) (map (λ param. lowered_input param.ty) params)
    param_skeletons [] = refl
    param_skeletons (param ∷ params) = ap (λ rest. param_skeleton param.ty ∷ rest) (param_skeletons params)

    pub input_skeletons : (m : Method) → method_inputs m ≡ map (λ (input : Input TypeId). input.skeleton) (lowered_inputs m)
    input_skeletons m =
        ap (λ first. first ++ map (λ param. param_skeleton param.ty) m.params) (first_skeletons m.param_self)
        ∙ ap (λ rest. map (λ (input : Input TypeId). input.skeleton) (where_any (λ receiver. lowered_receiver receiver.ty ∷ []) m.param_self) ++ rest) (param_skeletons m.params)
        ∙ sym (map-append (λ (input : Input TypeId). input.skeleton) (where_any (λ receiver. lowered_receiver receiver.ty ∷ []) m.param_self) (map (λ param. lowered_input param.ty) m.params))

    reads : (m : Method) (n : NumberedSignature) → HasInputs it.catalog m n → IsReadLike it fields_of m n
    reads m n has =
        record {
          lifetimes = has.lifetimes;
          inputs = has.inputs;
          named = has.named;
          leaves = ap (λ inputs. from_fields in_field (input_leaves fields_of m.lifetime_env.count) inputs) (input_skeletons m)
              ∙ ap (leaves_of_inputs fields_of m.lifetime_env.count) has.inputs
              ∙ inputs_known (id_there it.catalog) (declared_fields it) fields_of agree m.lifetime_env.count (numbered_inputs it.catalog n)
              ∙ ap (λ env. leaves_of_inputs (declared_fields it) env.count (numbered_inputs it.catalog n)) has.lifetimes;
          edges = λ test. ap (edges_of_inputs test) has.inputs ∙ input_edges_known (id_there it.catalog) test (numbered_inputs it.catalog n);
        }

    declared_reads : (m : Method) (o : Option NumberedSignature) → HasDeclared it.catalog m o → IsReadAsDeclared it fields_of m o
    declared_reads m o has = record { signature = has.signature; has = has.has; reads = reads m has.signature has.inputs }

    methods_read : (methods : List Method) (place : ItemPlace) → HaveDeclared it place methods (declared_methods it place) → AreReadAsDeclared it fields_of methods place
    methods_read methods place all =
        zipped_more (λ m declared. HasDeclared it.catalog m (method_signature (it.names place.«module») declared)) (λ m declared. IsReadAsDeclared it fields_of m (method_signature (it.names place.«module») declared))
        (λ m declared has. declared_reads m (method_signature (it.names place.«module») declared) has) methods (declared_methods it place) all

    -- of all that is lowered of a kind
    pub each_read : {D : Type 0} (methods_in : D → List Method) (defs : List D) (places : List ItemPlace) → AllZip (λ def place. HaveDeclared it place (methods_in def) (declared_methods it place)) defs places
        → AllZip (λ def place. AreReadAsDeclared it fields_of (methods_in def) place) defs places
    each_read methods_in defs places all =
        zipped_more (λ def place. HaveDeclared it place (methods_in def) (declared_methods it place)) (λ def place. AreReadAsDeclared it fields_of (methods_in def) place) (λ def place has. methods_read (methods_in def) place has) defs places all

    pub functions_read : (ms : List Method) (places : List ItemPlace) → AllZip (λ m place. HasFunction it.catalog m (declared_function it place)) ms places → AllZip (IsFunctionRead it fields_of) ms places
    functions_read ms places all =
        zipped_more (λ m place. HasFunction it.catalog m (declared_function it place)) (IsFunctionRead it fields_of)
        (λ m place has. record { enabled = λ on. declared_reads m (declared_function it place) (has.enabled on); disabled = has.disabled }) ms places all

  -- ---- of all items

  module _ (d : LoweredDefinitions) (lowered : AreAllLowered it d) where
    pub structs_have : AllZip HasFields d.structs.items (places_of it.modules kind.Struct)
    structs_have =
        known_made (λ defs. AllZip HasFields defs (places_of it.modules kind.Struct)) (each_form it struct_made (places_of it.modules kind.Struct)) d.structs.items lowered.structs
        (all_zipped (form_at it struct_made) HasFields (fields_at it) (places_of it.modules kind.Struct))

    pub struct_methods : AllZip (λ def place. HaveDeclared it place def.methods (declared_methods it place)) d.structs.items (places_of it.modules kind.Struct)
    struct_methods =
        known_made (λ defs. AllZip (λ def place. HaveDeclared it place def.methods (declared_methods it place)) defs (places_of it.modules kind.Struct)) (each_form it struct_made (places_of it.modules kind.Struct)) d.structs.items lowered.structs
        (all_zipped (form_at it struct_made) (λ def place. HaveDeclared it place def.methods (declared_methods it place)) (struct_methods_at it) (places_of it.modules kind.Struct))

    pub out_struct_methods : AllZip (λ def place. HaveDeclared it place def.methods (declared_methods it place)) d.out_structs.items (places_of it.modules kind.OutStruct)
    out_struct_methods =
        known_made (λ defs. AllZip (λ def place. HaveDeclared it place def.methods (declared_methods it place)) defs (places_of it.modules kind.OutStruct)) (each_form it out_struct_made (places_of it.modules kind.OutStruct)) d.out_structs.items lowered.out_structs
        (all_zipped (form_at it out_struct_made) (λ def place. HaveDeclared it place def.methods (declared_methods it place)) (out_struct_methods_at it) (places_of it.modules kind.OutStruct))

    pub opaque_methods : AllZip (λ (def : OpaqueDef) place. HaveDeclared it place def.methods (declared_methods it place)) d.opaques.items (places_of it.modules kind.Opaque)
    opaque_methods =
        known_made (λ defs. AllZip (λ (def : OpaqueDef) place. HaveDeclared it place def.methods (declared_methods it place)) defs (places_of it.modules kind.Opaque)) (each_form it opaque_made (places_of it.modules kind.Opaque)) d.opaques.items lowered.opaques
        (all_zipped (form_at it opaque_made) (λ (def : OpaqueDef) place. HaveDeclared it place def.methods (declared_methods it place)) (opaque_methods_at it) (places_of it.modules kind.Opaque))

    pub enum_methods : AllZip (λ (def : EnumDef) place. HaveDeclared it place def.methods (declared_methods it place)) d.enums.items (places_of it.modules kind.Enum)
    enum_methods =
        known_made (λ defs. AllZip (λ (def : EnumDef) place. HaveDeclared it place def.methods (declared_methods it place)) defs (places_of it.modules kind.Enum)) (each_form it enum_made (places_of it.modules kind.Enum)) d.enums.items lowered.enums
        (all_zipped (form_at it enum_made) (λ (def : EnumDef) place. HaveDeclared it place def.methods (declared_methods it place)) (enum_methods_at it) (places_of it.modules kind.Enum))

    pub functions : AllZip (λ m place. HasFunction it.catalog m (declared_function it place)) d.functions.items (places_of it.modules kind.Function)
    functions =
        known_made (λ ms. AllZip (λ m place. HasFunction it.catalog m (declared_function it place)) ms (places_of it.modules kind.Function)) (each_form it function_made (places_of it.modules kind.Function)) d.functions.items lowered.functions
        (all_zipped (form_at it function_made) (λ m place. HasFunction it.catalog m (declared_function it place)) (function_at it) (places_of it.modules kind.Function))
