-- What is made of the struct at a place contains what the struct holds.
use Rattle.std.proofs.Common.{◌≡◌, ◌<◌, List, [], length, map, Bool, true, false, Option, Some, None, if◌then◌else◌, refl, sym, ap, subst}
use Rattle.std.specs.Prelude.{IfSome, option_and_then, slice_get}
use Rattle.std.specs.List.{Contains}
use Rattle.std.proofs.lemmas.Option.{none-some, same_Some, slice_get_within}
use Rattle.bridge_ast.specs.Types.{item_of}
use Rattle.bridge_ast.specs.declared.place.ItemPlace.{ItemPlace}
use Rattle.bridge_decl.specs.declared.modules.Item.{Item}
use Rattle.bridge_decl.specs.declared.modules.Item.TheVariants as item
use Rattle.bridge_decl.specs.declared.modules.Module.{Module}
use Rattle.bridge_decl.specs.declared.structs.Field.{Field}
use Rattle.bridge_decl.specs.declared.structs.Struct.{Struct}
use Rattle.bridge_places.specs.Entries.{IsCatalog}
use Rattle.bridge_telling.proofs.ExactLemmas.{exactly_each, in_none}
use Rattle.bridge_telling.proofs.GivenLemmas.{in_map, mapped}
use Rattle.hir_ids.specs.declared.ids.TypeId.{TypeId}
use Rattle.hir_ids.specs.declared.ids.TypeId.TheVariants as type
use Rattle.hir_items.specs.Inheriting.{item_marks}
use Rattle.hir_lowering.specs.Interface.{AreNamed, Interface, setting_in}
use Rattle.hir_lowering.specs.Kinds.{ItemMaking, out_struct_made, struct_made}
use Rattle.hir_lowering.specs.Placing.{beside_module, form_at, form_of, found_at}
use Rattle.hir_mentions.specs.Containing.{contained_in}
use Rattle.hir_mentions.specs.Mentions.{where_any}
use Rattle.hir_modules.specs.ModuleMarks.{module_marks}
use Rattle.hir_types.specs.Paths.{returnable_id}
use Rattle.hir_nesting_rules.specs.Holding.{HoldsStruct, structs_held}
use Rattle.hir_nesting_rules.proofs.CatalogLemmas.{IsStruct, entered, held_structs}
use Rattle.hir_nesting_rules.proofs.FieldLemmas.{AreEntered, field_ids, out_struct_contains, struct_contains, struct_ids}
use Rattle.hir_nesting_rules.proofs.HeldIds.{id_at}

-- ---- what is found

in_module : (place : ItemPlace) (o : Option Module) (m : Module) (i : Item) → option_and_then (λ n. beside_module n (slice_get n.items place.item)) o ≡ Some (m, i)
    → (o ≡ Some m) × (option_and_then (λ n. slice_get n.items place.item) o ≡ Some i)
in_module place None m i is = absurd (none-some (m, i) is)
in_module place (Some n) m i is = beside (slice_get n.items place.item) is where
  beside : (q : Option Item) → beside_module n q ≡ Some (m, i) → (Some n ≡ Some m) × (q ≡ Some i)
  beside None there = absurd (none-some (m, i) there)
  beside (Some j) there = let same = same_Some (n, j) (m, i) there in (ap (λ p. Some p.0) same, ap (λ p. Some p.1) same)

pub found_item : (modules : List Module) (place : ItemPlace) (m : Module) (i : Item) → found_at modules place ≡ Some (m, i) → item_of modules place ≡ Some i
found_item modules place m i is = (in_module place (slice_get modules place.«module») m i is).1

pub found_within : (modules : List Module) (place : ItemPlace) (m : Module) (i : Item) → found_at modules place ≡ Some (m, i) → place.«module» < length modules
found_within modules place m i is = slice_get_within modules place.«module» m (in_module place (slice_get modules place.«module») m i is).0

module _ (it : Interface) where
  -- the ids of the structs that the item found at a place holds
  abbrev pub found_holds : ItemPlace → Module × Item → List TypeId
  found_holds place (owner, item.Struct declared) = struct_ids (setting_in it place.«module») (module_marks it.backend it.modules owner) declared
  found_holds place (owner, item.Opaque declared) = []
  found_holds place (owner, item.Enum declared) = []
  found_holds place (owner, item.Trait declared) = []
  found_holds place (owner, item.Function declared) = []

  abbrev pub ids_at : ItemPlace → List TypeId
  ids_at place = where_any (found_holds place) (found_at it.modules place)

  -- ---- what is made

  module _ (is_catalog : IsCatalog it.modules it.catalog) (named : AreNamed it.modules it.names) where
    entered_in : (place : ItemPlace) → place.«module» < length it.modules → AreEntered it.catalog (it.names place.«module»)
    entered_in place within = entered it.modules it.catalog is_catalog place.«module» (it.names place.«module») (named place.«module» within)

    first_made : {D : Type 0} (P : D → Type 0) (b : Bool) (o : Option D) → IfSome o P → IfSome (if b then o else None) P
    first_made P true o h = h
    first_made P false o h = tt

    second_made : {D : Type 0} (P : D → Type 0) (b : Bool) (o : Option D) → IfSome o P → IfSome (if b then None else o) P
    second_made P true o h = tt
    second_made P false o h = h

    struct_there : (place : ItemPlace) (m : Module) (i : Item) → place.«module» < length it.modules
        → IfSome (form_of it struct_made place (m, i)) (λ def. contained_in (λ path. type.Struct path.tcx_id) def.fields ≡ found_holds place (m, i))
    struct_there place m (item.Struct declared) within =
        second_made (λ def. contained_in (λ path. type.Struct path.tcx_id) def.fields ≡ found_holds place (m, item.Struct declared)) declared.output_only _
        (struct_contains (setting_in it place.«module») (entered_in place within) place (module_marks it.backend it.modules m) declared)
    struct_there place m (item.Opaque declared) within = tt
    struct_there place m (item.Enum declared) within = tt
    struct_there place m (item.Trait declared) within = tt
    struct_there place m (item.Function declared) within = tt

    out_struct_there : (place : ItemPlace) (m : Module) (i : Item) → place.«module» < length it.modules
        → IfSome (form_of it out_struct_made place (m, i)) (λ def. contained_in returnable_id def.fields ≡ found_holds place (m, i))
    out_struct_there place m (item.Struct declared) within =
        first_made (λ def. contained_in returnable_id def.fields ≡ found_holds place (m, item.Struct declared)) declared.output_only _
        (out_struct_contains (setting_in it place.«module») (entered_in place within) place (module_marks it.backend it.modules m) declared)
    out_struct_there place m (item.Opaque declared) within = tt
    out_struct_there place m (item.Enum declared) within = tt
    out_struct_there place m (item.Trait declared) within = tt
    out_struct_there place m (item.Function declared) within = tt

    there : {D : Type 0} (made : ItemMaking D) (part : D → List TypeId) (place : ItemPlace)
        → ((m : Module) (i : Item) → place.«module» < length it.modules → IfSome (form_of it made place (m, i)) (λ def. part def ≡ found_holds place (m, i)))
        → (o : Option (Module × Item)) → found_at it.modules place ≡ o → IfSome (option_and_then (form_of it made place) o) (λ def. part def ≡ where_any (found_holds place) o)
    there made part place makes None is = tt
    there made part place makes (Some (m, i)) is = makes m i (found_within it.modules place m i is)

    pub struct_at : (place : ItemPlace) → IfSome (form_at it struct_made place) (λ def. contained_in (λ path. type.Struct path.tcx_id) def.fields ≡ ids_at place)
    struct_at place = there struct_made (λ def. contained_in (λ path. type.Struct path.tcx_id) def.fields) place (struct_there place) (found_at it.modules place) refl

    pub out_struct_at : (place : ItemPlace) → IfSome (form_at it out_struct_made place) (λ def. contained_in returnable_id def.fields ≡ ids_at place)
    out_struct_at place = there out_struct_made (λ def. contained_in returnable_id def.fields) place (out_struct_there place) (found_at it.modules place) refl

    -- what a struct holds is a struct
    pub holds_struct : (outer inner : ItemPlace) → HoldsStruct it outer inner → IsStruct it.modules inner
    holds_struct outer inner h =
        let within = found_within it.modules outer h.owner (item.Struct h.declared) h.is.stands in
        held_structs it.modules it.catalog is_catalog outer.«module» (it.names outer.«module») (named outer.«module» within) h.field.ty inner h.holds

  -- ---- what is held

  abbrev HoldsId : ItemPlace → TypeId → Type 0
  HoldsId place id = (inner : ItemPlace) × (HoldsStruct it place inner × (id ≡ id_at it.catalog inner))

  abbrev ids_of_field : ItemPlace → Field → List TypeId
  ids_of_field place f = map (id_at it.catalog) (structs_held (it.names place.«module») f.ty)

  -- those of the fields of a struct that is known to be enabled
  in_fields : (place : ItemPlace) (owner : Module) (declared : Struct) (b : Bool) → (item_marks it.backend (module_marks it.backend it.modules owner) declared.attrs).disable ≡ b
      → found_at it.modules place ≡ Some (owner, item.Struct declared) → (id : TypeId) → Contains (if b then [] else field_ids it.catalog (it.names place.«module») declared.fields) id → HoldsId place id
  in_fields place owner declared true disabled is id h = absurd (in_none id h)
  in_fields place owner declared false disabled is id h =
      let told = (exactly_each (ids_of_field place) (λ f e. Contains (ids_of_field place f) e) (λ f e. (λ k. k, λ k. k)) declared.fields id).0 h in
      let from = mapped (id_at it.catalog) (structs_held (it.names place.«module») told.0.ty) id told.1.1 in (
        from.0,
        (
          record { owner = owner; declared = declared; is = record { stands = is; enabled = disabled }; field = told.0; has = told.1.0; holds = from.1.0 },
          from.1.1,
        ),
      )

  in_found : (place : ItemPlace) (o : Option (Module × Item)) → found_at it.modules place ≡ o → (id : TypeId) → Contains (where_any (found_holds place) o) id → HoldsId place id
  in_found place None is id h = absurd (in_none id h)
  in_found place (Some (owner, item.Struct declared)) is id h =
      in_fields place owner declared (item_marks it.backend (module_marks it.backend it.modules owner) declared.attrs).disable refl is id h
  in_found place (Some (owner, item.Opaque declared)) is id h = absurd (in_none id h)
  in_found place (Some (owner, item.Enum declared)) is id h = absurd (in_none id h)
  in_found place (Some (owner, item.Trait declared)) is id h = absurd (in_none id h)
  in_found place (Some (owner, item.Function declared)) is id h = absurd (in_none id h)

  -- each id is that of a struct that is held
  pub id_is_held : (place : ItemPlace) (id : TypeId) → Contains (ids_at place) id → HoldsId place id
  id_is_held place id h = in_found place (found_at it.modules place) refl id h

  -- and each that is held has its id there
  pub held_has_id : (outer inner : ItemPlace) → HoldsStruct it outer inner → Contains (ids_at outer) (id_at it.catalog inner)
  held_has_id outer inner h =
      let names = it.names outer.«module» in
      let ids = field_ids it.catalog names h.declared.fields in
      let in_field = in_map (id_at it.catalog) (structs_held names h.field.ty) inner h.holds in
      let among : Contains ids (id_at it.catalog inner) =
      (exactly_each (ids_of_field outer) (λ f e. Contains (ids_of_field outer f) e) (λ f e. (λ k. k, λ k. k)) h.declared.fields (id_at it.catalog inner)).1 (h.field, (h.has, in_field)) in
      let enabled : Contains (found_holds outer (h.owner, item.Struct h.declared)) (id_at it.catalog inner) =
      subst (λ b. Contains (if b then [] else ids) (id_at it.catalog inner)) (sym h.is.enabled) among in
      subst (λ o. Contains (where_any (found_holds outer) o) (id_at it.catalog inner)) (sym h.is.stands) enabled
