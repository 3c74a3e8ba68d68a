-- What a path of modules names has the id that their catalog says, and as many lifetimes as it declares.
use Rattle.std.proofs.Common.{◌≡◌, ℕ, ◌<◌, List, length, Bool, true, false, Option, Some, None, refl, sym, ap, subst, ◌∙◌, arith}
use Rattle.std.specs.Prelude.{slice_get, option_map, if◌then◌else◌}
use Rattle.std.proofs.lemmas.Option.{none-some, same_Some, slice_get-map, slice_get_within}
use Rattle.bridge_ast.specs.Types.{item_of}
use Rattle.bridge_ast.specs.declared.place.ItemPlace.{ItemPlace}
use Rattle.bridge_decl.specs.declared.modules.Item.{Item}
use Rattle.bridge_decl.specs.declared.modules.Item.TheVariants as item
use Rattle.bridge_decl.specs.declared.modules.Module.{Module}
use Rattle.bridge_decl.specs.declared.traits.Trait.{Trait as TraitDeclaration}
use Rattle.bridge_order.specs.Catalog.{entry_at, id_of}
use Rattle.bridge_order.specs.declared.catalog.Catalog.{Catalog}
use Rattle.bridge_places.specs.Entries.{IsCatalog, entry_of, entry_of_struct, has_fields}
use Rattle.bridge_places.specs.Kinds.{item_kind}
use Rattle.bridge_places.specs.Places.{places_of}
use Rattle.bridge_places.specs.declared.kinds.Kind.{Kind}
use Rattle.bridge_places.specs.declared.kinds.Kind.TheVariants as place_kind
use Rattle.hir_fitting.specs.Census.{none_within}
use Rattle.hir_number.specs.Naming.{Definition, IsNaming, Naming, trait_found, type_found}
use Rattle.hir_number.specs.declared.numbered.Kind.{Kind as NumberedKind}
use Rattle.hir_fitting_forms.specs.DeclaredCensus.{declared_census, lifetimes_declared, lifetimes_found, lifetimes_of_kind}
use Rattle.hir_fitting_forms.specs.Naming.{HasCount, NamesFit}
use Rattle.hir_fitting_forms.specs.NumberedFits.{trait_entered, type_entered}

module _ (modules : List Module) where
  -- the place of an item of a kind has its count in the list of the kind
  counted : (k : Kind) (id : ℕ) (place : ItemPlace) (it : Item) → slice_get (places_of modules k) id ≡ Some place → item_of modules place ≡ Some it
      → slice_get (lifetimes_of_kind modules k) id ≡ Some (lifetimes_declared it)
  counted k id place it at stands =
      slice_get-map (λ p. lifetimes_found (item_of modules p)) (places_of modules k) id
      ∙ ap (option_map (λ p. lifetimes_found (item_of modules p))) at ∙ ap (λ o. Some (lifetimes_found o)) stands

  within : (count id : ℕ) → id < count → none_within count id ≡ Some 0
  within count id lt = grind arith

  -- ---- entries

  struct_has : (b some : Bool) (id : ℕ) (place : ItemPlace) (it : Item) → slice_get (places_of modules (if b then place_kind.OutStruct else place_kind.Struct)) id ≡ Some place → item_of modules place ≡ Some it
      → HasCount (declared_census modules) (type_entered (entry_of_struct id b some)) (lifetimes_declared it)
  struct_has true some id place it at stands = counted place_kind.OutStruct id place it at stands
  struct_has false some id place it at stands = counted place_kind.Struct id place it at stands

  -- an item that is a type
  type_has : (it : Item) (id : ℕ) (place : ItemPlace) → slice_get (places_of modules (item_kind it)) id ≡ Some place → item_of modules place ≡ Some it → (found : Definition × NumberedKind)
      → type_found (Some (it, place)) ≡ Some found → HasCount (declared_census modules) (type_entered (entry_of id it)) (lifetimes_declared it)
  type_has (item.Struct s) id place at stands found is = struct_has s.output_only (has_fields s.fields) id place (item.Struct s) at stands
  type_has (item.Opaque o) id place at stands found is = counted place_kind.Opaque id place (item.Opaque o) at stands
  type_has (item.Enum e) id place at stands found is = within (length (places_of modules place_kind.Enum)) id (slice_get_within (places_of modules place_kind.Enum) id place at)
  type_has (item.Trait t) id place at stands found is = absurd (none-some found is)
  type_has (item.Function f) id place at stands found is = absurd (none-some found is)

  -- what is found of an item has its place and its count
  found_of : (it : Item) (place : ItemPlace) (found : Definition × NumberedKind) → type_found (Some (it, place)) ≡ Some found → (found.0.place ≡ place) × (found.0.count ≡ lifetimes_declared it)
  found_of (item.Struct s) place found is = let same = sym (same_Some _ found is) in (ap (λ f. f.0.place) same, ap (λ f. f.0.count) same)
  found_of (item.Opaque o) place found is = let same = sym (same_Some _ found is) in (ap (λ f. f.0.place) same, ap (λ f. f.0.count) same)
  found_of (item.Enum e) place found is = let same = sym (same_Some _ found is) in (ap (λ f. f.0.place) same, ap (λ f. f.0.count) same)
  found_of (item.Trait t) place found is = absurd (none-some found is)
  found_of (item.Function f) place found is = absurd (none-some found is)

  module _ (catalog : Catalog) (is_catalog : IsCatalog modules catalog) where
    type_at_has : (it : Item) (place : ItemPlace) → item_of modules place ≡ Some it → (found : Definition × NumberedKind) → type_found (Some (it, place)) ≡ Some found
        → HasCount (declared_census modules) (type_entered (entry_at catalog found.0.place)) found.0.count
    type_at_has it place stands found is =
        let described = is_catalog.entries place it stands in
        let same = found_of it place found is in
        subst (λ p. HasCount (declared_census modules) (type_entered (entry_at catalog p)) found.0.count) (sym same.0)
        (subst (λ n. HasCount (declared_census modules) (type_entered (entry_at catalog place)) n) (sym same.1)
        (subst (λ e. HasCount (declared_census modules) (type_entered e) (lifetimes_declared it)) (sym described.is)
        (type_has it (id_of (entry_at catalog place)) place described.number stands found is)))

    trait_at_has : (it : TraitDeclaration) (place : ItemPlace) → item_of modules place ≡ Some (item.Trait it) → (found : Definition) → trait_found (Some (it, place)) ≡ Some found
        → HasCount (declared_census modules) (trait_entered (entry_at catalog found.place)) found.count
    trait_at_has it place stands found is =
        let described = is_catalog.entries place (item.Trait it) stands in
        subst (λ f. HasCount (declared_census modules) (trait_entered (entry_at catalog f.place)) f.count) (same_Some _ found is)
        (subst (λ e. HasCount (declared_census modules) (trait_entered e) (lifetimes_declared (item.Trait it))) (sym described.is)
        (counted place_kind.Trait (id_of (entry_at catalog place)) place (item.Trait it) described.number stands))

    module _ (number : ℕ) (names : Naming) (is_naming : IsNaming modules number names) where
      types_fit : (path : List (List ℕ)) (o : Option (Item × ItemPlace)) → names.type_at path ≡ o → (found : Definition × NumberedKind) → type_found o ≡ Some found
          → HasCount (declared_census modules) (type_entered (entry_at catalog found.0.place)) found.0.count
      types_fit path None at found is = absurd (none-some found is)
      types_fit path (Some both) at found is = type_at_has both.0 both.1 ((is_naming.types path both.0 both.1).0 at).stands found is

      traits_fit : (path : List (List ℕ)) (o : Option (TraitDeclaration × ItemPlace)) → names.trait_at path ≡ o → (found : Definition) → trait_found o ≡ Some found
          → HasCount (declared_census modules) (trait_entered (entry_at catalog found.place)) found.count
      traits_fit path None at found is = absurd (none-some found is)
      traits_fit path (Some both) at found is = trait_at_has both.0 both.1 ((is_naming.traits path both.0 both.1).0 at).stands found is

      pub names_fit : NamesFit (declared_census modules) catalog names
      names_fit = record {
        types = λ path found is. types_fit path (names.type_at path) refl found is;
        traits = λ path found is. traits_fit path (names.trait_at path) refl found is;
      }
