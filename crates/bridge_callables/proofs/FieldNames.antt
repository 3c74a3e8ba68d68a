-- The struct that has the id of a place has fields of the names that are declared there.
use Rattle.std.proofs.Common.{◌≡◌, ℕ, List, [], ◌∷◌, map, Bool, true, false, Option, Some, None, Result, Ok, Err, if◌then◌else◌, refl, sym, ap, subst, ◌∙◌}
use Rattle.std.specs.Prelude.{⊤, IfSome, option_map, slice_get}
use Rattle.std.specs.List.{AllZip}
use Rattle.bridge_ast.specs.Types.{item_of}
use Rattle.bridge_ast.specs.declared.place.ItemPlace.{ItemPlace}
use Rattle.bridge_decl.specs.declared.modules.Item.{Item}
use Rattle.bridge_decl.specs.declared.modules.Item.TheVariants as item
use Rattle.bridge_decl.specs.declared.modules.Module.{Module}
use Rattle.bridge_decl.specs.declared.structs.Field.{Field}
use Rattle.bridge_decl.specs.declared.structs.Struct.{Struct}
use Rattle.bridge_order.specs.Catalog.{entry_at, id_of}
use Rattle.bridge_order.specs.declared.catalog.Entry.{Entry}
use Rattle.bridge_places.specs.Entries.{Describes, IsCatalog, entry_of_struct, has_fields}
use Rattle.bridge_places.specs.Places.{places_of}
use Rattle.bridge_places.specs.declared.kinds.Kind.TheVariants as kind
use Rattle.hir_attrs.specs.declared.attrs.Attrs.{Attrs}
use Rattle.hir_context.specs.Lookups.{InputStruct}
use Rattle.hir_context.specs.declared.parts.Definitions.{Definitions}
use Rattle.hir_fields.specs.Fields.{fields_form, fields_with}
use Rattle.hir_fields.specs.Types.{numbered_form}
use Rattle.hir_form.specs.ParamForms.{all_given, field_form}
use Rattle.hir_items.specs.Inheriting.{item_marks}
use Rattle.hir_items.specs.Setting.{Setting}
use Rattle.hir_items.specs.Structs.{struct_item_form, struct_with, type_fields_form}
use Rattle.hir_items.specs.TypeMethods.{type_method_form}
use Rattle.hir_lowering.specs.Interface.{Interface, setting_in}
use Rattle.hir_lowering.specs.Kinds.{struct_made}
use Rattle.hir_lowering.specs.Placing.{form_at, form_of, found_at}
use Rattle.hir_mentions.specs.Mentions.{where_any}
use Rattle.hir_modules.specs.ModuleMarks.{module_marks}
use Rattle.hir_number.specs.Numbers.{signature_numbers}
use Rattle.hir_number.specs.Shapes.{NumberLists, shape}
use Rattle.hir_number.specs.Signatures.{field_uses}
use Rattle.hir_number.specs.declared.fault.NumberFault.{NumberFault}
use Rattle.hir_number.specs.declared.numbered.NumberedType.{NumberedType}
use Rattle.hir_skeleton.specs.Inputs.{input_struct}
use Rattle.hir_stages.specs.Filling.{fill_each, fill_type}
use Rattle.hir_types.specs.SelfTypes.{FieldType}
use Rattle.hir_readings.specs.Knowing.{id_there, type_id_of}
use Rattle.hir_readings.proofs.AgreeLemmas.{FoundAs, found}
use Rattle.hir_readings.proofs.ItemLemmas.{made_at, of_first}
use Rattle.hir_readings.proofs.JoinLemmas.{all_zipped, zipped_at}
use Rattle.bridge_callables.specs.Names.{declared_field_names, found_field_names, struct_field_names}
use Rattle.bridge_callables.proofs.MethodNames.{any_at_all}

-- the names of a struct's fields
abbrev pub names_in : InputStruct → List (List ℕ)
names_in def = map (λ field. field.name) def.fields

-- ---- of one that is lowered

module _ (s : Setting) where
  abbrev filled_types : List Field → NumberLists → List NumberedType
  filled_types fields ns = (fill_each (map fill_type (map (λ field. shape s.names field.ty) fields)) ns).0

  abbrev NamesFields : List Field → List FieldType → Type 0
  NamesFields fields ts = map (λ field. field.name) (fields_with s.backend fields ts) ≡ map (λ field. field.name) fields

  joined_names : (fields : List Field) (ns : NumberLists) (ts : List FieldType) → AllZip (λ t ty. ⊤) ts (filled_types fields ns) → NamesFields fields ts
  joined_names [] ns ts all = refl
  joined_names (field ∷ fields) ns [] all = absurd all
  joined_names (field ∷ fields) ns (t ∷ ts) all = ap (λ rest. field.name ∷ rest) (joined_names fields (fill_type (shape s.names field.ty) ns).1 ts all.1)

  given_names : (fields : List Field) (ns : NumberLists) (o : Option (List FieldType)) → IfSome o (λ ts. AllZip (λ t ty. ⊤) ts (filled_types fields ns))
      → IfSome (option_map (fields_with s.backend fields) o) (λ made. map (λ field. field.name) made ≡ map (λ field. field.name) fields)
  given_names fields ns None all = tt
  given_names fields ns (Some ts) all = joined_names fields ns ts all

  numbered_names : (declared : Struct) (r : Result NumberLists NumberFault)
      → IfSome (option_map (fields_with s.backend declared.fields) (numbered_form (field_form s.catalog) s.names declared r)) (λ made. map (λ field. field.name) made ≡ map (λ field. field.name) declared.fields)
  numbered_names declared (Ok ns) =
      given_names declared.fields ns (all_given (map (field_form s.catalog) (filled_types declared.fields ns)))
      (all_zipped (field_form s.catalog) (λ t ty. ⊤) (λ ty. any_at_all (field_form s.catalog ty)) (filled_types declared.fields ns))
  numbered_names declared (Err fault) = tt

  unless_disabled : {F : Type 0} (name : F → List ℕ) (b : Bool) (form : Option (List F)) (names : List (List ℕ)) → IfSome form (λ made. map name made ≡ names)
      → IfSome (if b then Some [] else form) (λ made. map name made ≡ (if b then [] else names))
  unless_disabled name true form names h = refl
  unless_disabled name false form names h = h

-- ---- at places

module _ (it : Interface) (place : ItemPlace) where
  abbrev setting_there : Setting
  setting_there = setting_in it place.«module»

  abbrev set_of : Module → Attrs
  set_of owner = module_marks it.backend it.modules owner

  struct_names : (owner : Module) (declared : Struct) → IfSome (struct_item_form setting_there place (set_of owner) declared) (λ def. names_in def ≡ struct_field_names it owner declared)
  struct_names owner declared =
      let marks = item_marks it.backend (set_of owner) declared.attrs in
      of_first (λ fields. map (λ field. field.name) fields ≡ struct_field_names it owner declared) (λ def. names_in def ≡ struct_field_names it owner declared) (struct_with it.backend (set_of owner) declared) (λ fields methods h. h)
      (type_fields_form marks (fields_form it.backend it.catalog (it.names place.«module») declared)) (type_method_form setting_there place (set_of owner) marks declared.methods)
      (unless_disabled setting_there (λ field. field.name) marks.disable (fields_form it.backend it.catalog (it.names place.«module») declared) (map (λ field. field.name) declared.fields)
      (numbered_names setting_there declared (signature_numbers declared.lifetimes (field_uses (it.names place.«module») declared.fields))))

  names_of_struct : (owner : Module) (declared : Struct) (b : Bool) → IfSome (if b then None else struct_item_form setting_there place (set_of owner) declared)
      (λ def. names_in def ≡ (if b then [] else struct_field_names it owner declared))
  names_of_struct owner declared true = tt
  names_of_struct owner declared false = struct_names owner declared

  names_of_item : (owner : Module) (i : Item) → IfSome (form_of it struct_made place (owner, i)) (λ def. names_in def ≡ found_field_names it (owner, i))
  names_of_item owner (item.Struct declared) = names_of_struct owner declared declared.output_only
  names_of_item owner (item.Opaque declared) = tt
  names_of_item owner (item.Enum declared) = tt
  names_of_item owner (item.Trait declared) = tt
  names_of_item owner (item.Function declared) = tt

  pub field_names_at : IfSome (form_at it struct_made place) (λ def. names_in def ≡ declared_field_names it place)
  field_names_at = made_at it struct_made place (λ o def. names_in def ≡ where_any (found_field_names it) o) names_of_item

-- ---- of all structs of a context

module _ (it : Interface) (defs : Definitions) (all : AllZip (λ def place. names_in def ≡ declared_field_names it place) defs.structs.defs (places_of it.modules kind.Struct))
    (is_catalog : IsCatalog it.modules it.catalog)
  where
    among : (id : ℕ) (place : ItemPlace) → slice_get (places_of it.modules kind.Struct) id ≡ Some place → where_any names_in (slice_get defs.structs.defs id) ≡ declared_field_names it place
    among id place at =
        let beside = zipped_at (λ def there. names_in def ≡ declared_field_names it there) defs.structs.defs (places_of it.modules kind.Struct) all id place at in
        subst (λ o. where_any names_in o ≡ declared_field_names it place) (sym beside.1.0) beside.1.1

    -- where this is declared at a place, what has its id has fields of these names
    abbrev HasNames : Option (Module × Item) → Entry → Type 0
    HasNames o e = where_any names_in (input_struct defs (type_id_of e)) ≡ where_any (found_field_names it) o

    struct_has : (place : ItemPlace) (owner : Module) (declared : Struct) (id : ℕ) (has : Bool) (out : Bool) → declared.output_only ≡ out → found_at it.modules place ≡ Some (owner, item.Struct declared)
        → slice_get (places_of it.modules (if out then kind.OutStruct else kind.Struct)) id ≡ Some place → HasNames (Some (owner, item.Struct declared)) (entry_of_struct id out has)
    struct_has place owner declared id has true out_is found_is at =
        subst (λ b. [] ≡ (if b then [] else struct_field_names it owner declared)) (sym out_is) refl
    struct_has place owner declared id has false out_is found_is at = among id place at ∙ ap (λ o. where_any (found_field_names it) o) found_is

    item_has : (place : ItemPlace) (owner : Module) (i : Item) → found_at it.modules place ≡ Some (owner, i) → Describes it.modules i place (entry_at it.catalog place) → HasNames (Some (owner, i)) (entry_at it.catalog place)
    item_has place owner (item.Struct declared) found_is described =
        subst (HasNames (Some (owner, item.Struct declared))) (sym described.is)
        (struct_has place owner declared (id_of (entry_at it.catalog place)) (has_fields declared.fields) declared.output_only refl found_is described.number)
    item_has place owner (item.Opaque declared) found_is described = subst (HasNames (Some (owner, item.Opaque declared))) (sym described.is) refl
    item_has place owner (item.Enum declared) found_is described = subst (HasNames (Some (owner, item.Enum declared))) (sym described.is) refl
    item_has place owner (item.Trait declared) found_is described = subst (HasNames (Some (owner, item.Trait declared))) (sym described.is) refl
    item_has place owner (item.Function declared) found_is described = subst (HasNames (Some (owner, item.Function declared))) (sym described.is) refl

    place_has : (place : ItemPlace) (o : Option Item) → item_of it.modules place ≡ o → FoundAs o (found_at it.modules place) → HasNames (found_at it.modules place) (entry_at it.catalog place)
    place_has place None is none =
        subst (λ f. HasNames f (entry_at it.catalog place)) (sym none) (subst (HasNames None) (sym (is_catalog.others place is)) refl)
    place_has place (Some i) is (owner, found_is) =
        subst (λ f. HasNames f (entry_at it.catalog place)) (sym found_is) (item_has place owner i found_is (is_catalog.entries place i is))

    pub names_there : (place : ItemPlace) → where_any names_in (input_struct defs (id_there it.catalog place)) ≡ declared_field_names it place
    names_there place = place_has place (item_of it.modules place) refl (found it.modules place)
