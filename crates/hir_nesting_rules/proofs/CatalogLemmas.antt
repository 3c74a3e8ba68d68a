-- What the catalog of modules has of the structs that their paths name.
use Rattle.std.proofs.Common.{◌≡◌, ℕ, ◌+◌, List, [], ◌∷◌, length, map, Bool, true, false, Option, Some, None, if◌then◌else◌, refl, sym, ap, subst}
use Rattle.std.specs.Prelude.{slice_get}
use Rattle.std.specs.List.{Contains}
use Rattle.bridge_ast.specs.Types.{item_of}
use Rattle.bridge_ast.specs.declared.place.ItemPlace.{ItemPlace}
use Rattle.bridge_decl.specs.declared.modules.Item.{Item}
use Rattle.bridge_decl.specs.declared.modules.Item.TheVariants as item
use Rattle.bridge_decl.specs.declared.modules.Module.{Module}
use Rattle.bridge_decl.specs.declared.structs.Struct.{Struct}
use Rattle.bridge_decl.specs.declared.types.TypeName.{TypeName, map-TypeName}
use Rattle.bridge_decl.specs.declared.types.TypeName.TheOpen.{TypeName-F}
use Rattle.bridge_decl.specs.declared.types.TypeName.TheFolds.{fold-roll-TypeName, ind-TypeName}
use Rattle.bridge_order.specs.Catalog.{entry_at, id_of}
use Rattle.bridge_order.specs.declared.catalog.Catalog.{Catalog}
use Rattle.bridge_order.specs.declared.catalog.Entry.{Entry}
use Rattle.bridge_order.specs.declared.catalog.Entry.TheVariants as entry
use Rattle.bridge_places.specs.Entries.{IsCatalog, entry_of_struct, has_fields}
use Rattle.bridge_places.specs.Places.{places_of}
use Rattle.bridge_places.specs.declared.kinds.Kind.TheVariants as kind
use Rattle.bridge_telling.proofs.ExactLemmas.{in_none, in_one}
use Rattle.hir_ids.specs.declared.ids.TypeId.TheVariants as type
use Rattle.hir_number.specs.Naming.{IsNaming, Naming, type_found}
use Rattle.hir_nesting_rules.specs.Holding.{level_structs, struct_named, structs_held}
use Rattle.hir_nesting_rules.proofs.FieldLemmas.{AreEntered}
use Rattle.hir_nesting_rules.proofs.HeldIds.{entry_id, entry_ids, found_ids, id_at}

-- a struct or an out-struct stands at the place
abbrev pub IsStruct : List Module → ItemPlace → Type 0
IsStruct modules place = (declared : Struct) × (item_of modules place ≡ Some (item.Struct declared))

-- the number of a struct among all, out-structs before the others, where there are so many of these
abbrev pub entry_number : ℕ → Entry → ℕ
entry_number outs (entry.OutStruct id b) = id
entry_number outs (entry.Struct id b) = outs + id
entry_number outs (entry.Opaque id mark) = 0
entry_number outs (entry.Enum id) = 0
entry_number outs (entry.Trait id) = 0
entry_number outs (entry.Function id) = 0

abbrev pub number_at : List Module → Catalog → ItemPlace → ℕ
number_at modules catalog place = entry_number (length (places_of modules kind.OutStruct)) (entry_at catalog place)

-- the place is that of an out-struct or of a struct, and the catalog has its id
pub data StandsAmong (modules : List Module) (catalog : Catalog) (place : ItemPlace) : Type 0 where
  among_outs :
      (id : ℕ) → slice_get (places_of modules kind.OutStruct) id ≡ Some place → number_at modules catalog place ≡ id → id_at catalog place ≡ type.OutStruct id
      → StandsAmong modules catalog place
  among_structs :
      (id : ℕ) → slice_get (places_of modules kind.Struct) id ≡ Some place → number_at modules catalog place ≡ length (places_of modules kind.OutStruct) + id
      → id_at catalog place ≡ type.Struct id → StandsAmong modules catalog place

struct_entry_is : (id : ℕ) (out has : Bool) → entry_ids (entry_of_struct id out has) ≡ entry_id (entry_of_struct id out has) ∷ []
struct_entry_is id true has = refl
struct_entry_is id false has = refl

module _ (modules : List Module) (catalog : Catalog) (is_catalog : IsCatalog modules catalog) where
  -- ---- at a place

  entered_among : (place : ItemPlace) (id : ℕ) (out has : Bool) → entry_at catalog place ≡ entry_of_struct id out has → slice_get (places_of modules (if out then kind.OutStruct else kind.Struct)) id ≡ Some place
      → StandsAmong modules catalog place
  entered_among place id true has is at = among_outs id at (ap (entry_number (length (places_of modules kind.OutStruct))) is) (ap entry_id is)
  entered_among place id false has is at = among_structs id at (ap (entry_number (length (places_of modules kind.OutStruct))) is) (ap entry_id is)

  pub stands_among : (place : ItemPlace) → IsStruct modules place → StandsAmong modules catalog place
  stands_among place (declared, stands) =
      let described = is_catalog.entries place (item.Struct declared) stands in
      entered_among place (id_of (entry_at catalog place)) declared.output_only (has_fields declared.fields) described.is described.number

  item_entered : (place : ItemPlace) (it : Item) → item_of modules place ≡ Some it → found_ids catalog (type_found (Some (it, place))) ≡ map (id_at catalog) (struct_named (Some (it, place)))
  item_entered place (item.Struct s) stands =
      subst (λ e. entry_ids e ≡ entry_id e ∷ []) (sym (is_catalog.entries place (item.Struct s) stands).is) (struct_entry_is (id_of (entry_at catalog place)) s.output_only (has_fields s.fields))
  item_entered place (item.Opaque o) stands = subst (λ e. entry_ids e ≡ []) (sym (is_catalog.entries place (item.Opaque o) stands).is) refl
  item_entered place (item.Enum e) stands = subst (λ e. entry_ids e ≡ []) (sym (is_catalog.entries place (item.Enum e) stands).is) refl
  item_entered place (item.Trait t) stands = refl
  item_entered place (item.Function f) stands = refl

  -- ---- by names

  module _ (number : ℕ) (names : Naming) (naming : IsNaming modules number names) where
    path_entered : (path : List (List ℕ)) (o : Option (Item × ItemPlace)) → names.type_at path ≡ o → found_ids catalog (type_found o) ≡ map (id_at catalog) (struct_named o)
    path_entered path None is = refl
    path_entered path (Some (it, place)) is = item_entered place it ((naming.types path it place).0 is).stands

    pub entered : AreEntered catalog names
    entered path = path_entered path (names.type_at path) refl

    item_named : (it : Item) (at place : ItemPlace) → item_of modules at ≡ Some it → Contains (struct_named (Some (it, at))) place → IsStruct modules place
    item_named (item.Struct s) at place stands h = subst (IsStruct modules) (sym (in_one at place h)) (s, stands)
    item_named (item.Opaque o) at place stands h = absurd (in_none place h)
    item_named (item.Enum e) at place stands h = absurd (in_none place h)
    item_named (item.Trait t) at place stands h = absurd (in_none place h)
    item_named (item.Function f) at place stands h = absurd (in_none place h)

    path_named : (path : List (List ℕ)) (o : Option (Item × ItemPlace)) → names.type_at path ≡ o → (place : ItemPlace) → Contains (struct_named o) place → IsStruct modules place
    path_named path None is place h = absurd (in_none place h)
    path_named path (Some (it, at)) is place h = item_named it at place ((naming.types path it at).0 is).stands h

    abbrev HoldsStructs : TypeName → Type 0
    HoldsStructs t = (place : ItemPlace) → Contains (structs_held names t) place → IsStruct modules place

    abbrev written : TypeName-F ((t : TypeName) × HoldsStructs t) → TypeName-F TypeName
    written y = map-TypeName ((t : TypeName) × HoldsStructs t) TypeName (λ e. e.0) y

    abbrev LayerHolds : TypeName-F TypeName → Type 0
    LayerHolds x = (place : ItemPlace) → Contains (level_structs names (map-TypeName TypeName (List ItemPlace) (structs_held names) x)) place → IsStruct modules place

    unfoldable Layered : TypeName-F ((t : TypeName) × HoldsStructs t) → Type 0
    Layered y = LayerHolds (written y)

    layer : (y : TypeName-F ((t : TypeName) × HoldsStructs t)) → Layered y
    unfolding Layered
    layer (TypeName-F.Named p) = path_named p.segments (names.type_at p.segments) refl
    layer (TypeName-F.SelfType p) = path_named p.segments (names.type_at p.segments) refl
    layer (TypeName-F.Reference l m t) = t.1
    layer (TypeName-F.Option t d) = t.1
    layer _ = λ place h. absurd (in_none place h)

    -- what a type holds are structs
    pub held_structs : (t : TypeName) → HoldsStructs t
    unfolding Layered
    held_structs = ind-TypeName HoldsStructs (λ x y is place h.
        subst LayerHolds is (layer y) place (subst (λ ps. Contains ps place) (fold-roll-TypeName (List ItemPlace) (level_structs names) x) h))
