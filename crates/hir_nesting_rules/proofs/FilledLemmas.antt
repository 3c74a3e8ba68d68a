-- A declared type with numbers filled in holds the structs that its paths name.
use Rattle.std.proofs.Common.{◌≡◌, ℕ, List, [], map, Option, Some, None, refl, sym, ap, subst, ◌∙◌}
use Rattle.bridge_ast.specs.declared.place.ItemPlace.{ItemPlace}
use Rattle.bridge_decl.specs.declared.types.TypeName.{TypeName, map-TypeName}
use Rattle.bridge_decl.specs.declared.types.TypeName.TheOpen.{TypeName-F}
use Rattle.bridge_decl.specs.declared.types.TypeName.TheFolds.{fold-roll-TypeName, ind-TypeName}
use Rattle.bridge_order.specs.declared.catalog.Catalog.{Catalog}
use Rattle.hir_ids.specs.declared.ids.TypeId.{TypeId}
use Rattle.hir_number.specs.Naming.{Definition, Naming, trait_found, type_found}
use Rattle.hir_number.specs.Shapes.{NumberLists, level_shape, shape, target_shape, trait_shape}
use Rattle.hir_number.specs.declared.numbered.Kind.{Kind}
use Rattle.hir_number.specs.declared.numbered.NumberedType.{NumberedType, map-NumberedType, roll-NumberedType}
use Rattle.hir_number.specs.declared.numbered.NumberedType.TheOpen.{NumberedType-F}
use Rattle.hir_number.specs.declared.numbered.NumberedType.TheFolds.{fold-roll-NumberedType, ind-NumberedType}
use Rattle.hir_stages.specs.Filling.{Fill, fill_borrow, fill_each, fill_optional, fill_target, fill_trait, fill_type, first_number, level_fill, others_of}
use Rattle.hir_nesting_rules.specs.Holding.{level_structs, struct_named, structs_held}
use Rattle.hir_nesting_rules.proofs.HeldIds.{found_ids, id_at, ids_held, level_ids}

module _ (catalog : Catalog) where
  abbrev held_inside : NumberedType-F NumberedType → List TypeId
  held_inside x = level_ids catalog (map-NumberedType NumberedType (List TypeId) (ids_held catalog) x)

  held_rolled : (x : NumberedType-F NumberedType) → ids_held catalog (roll-NumberedType x) ≡ held_inside x
  held_rolled x = fold-roll-NumberedType (List TypeId) (level_ids catalog) x

  -- ---- numbers that are filled in

  abbrev KeepsHeld : NumberedType → Type 0
  KeepsHeld t = (ns : NumberLists) → ids_held catalog (fill_type t ns).0 ≡ ids_held catalog t

  abbrev plain : NumberedType-F ((t : NumberedType) × KeepsHeld t) → NumberedType-F NumberedType
  plain y = map-NumberedType ((t : NumberedType) × KeepsHeld t) NumberedType (λ e. e.0) y

  abbrev LayerKeeps : NumberedType-F NumberedType → Type 0
  LayerKeeps x = (ns : NumberLists) → ids_held catalog (level_fill (map-NumberedType NumberedType (Fill NumberedType) fill_type x) ns).0 ≡ held_inside x

  unfoldable Kept : NumberedType-F ((t : NumberedType) × KeepsHeld t) → Type 0
  Kept y = LayerKeeps (plain y)

  layer_kept : (y : NumberedType-F ((t : NumberedType) × KeepsHeld t)) → Kept y
  unfolding Kept
  layer_kept (NumberedType-F.Primitive p) = λ ns. held_rolled (NumberedType-F.Primitive p)
  layer_kept NumberedType-F.Ordering = λ ns. held_rolled NumberedType-F.Ordering
  layer_kept (NumberedType-F.Named t) = λ ns. held_rolled (NumberedType-F.Named (fill_target t ns).0)
  layer_kept (NumberedType-F.SelfType t) = λ ns. held_rolled (NumberedType-F.SelfType (fill_target t ns).0)
  layer_kept (NumberedType-F.ImplTrait t) = λ ns. held_rolled (NumberedType-F.ImplTrait (fill_trait t ns).0)
  layer_kept (NumberedType-F.Reference n m t) = λ ns. held_rolled (NumberedType-F.Reference (first_number ns) m (fill_type t.0 (others_of ns)).0) ∙ t.1 (others_of ns)
  layer_kept (NumberedType-F.Box t) = λ ns. held_rolled (NumberedType-F.Box (fill_type t.0 ns).0)
  layer_kept (NumberedType-F.Option t d) = λ ns. held_rolled (NumberedType-F.Option (fill_type t.0 ns).0 d) ∙ t.1 ns
  layer_kept (NumberedType-F.Result t e d) = λ ns. held_rolled (NumberedType-F.Result (fill_type t.0 ns).0 (fill_type e.0 (fill_type t.0 ns).1).0 d)
  layer_kept (NumberedType-F.Write w) = λ ns. held_rolled (NumberedType-F.Write w)
  layer_kept (NumberedType-F.StrReference n e d) = λ ns. held_rolled (NumberedType-F.StrReference (fill_optional n ns).0 e d)
  layer_kept (NumberedType-F.StrSlice e d) = λ ns. held_rolled (NumberedType-F.StrSlice e d)
  layer_kept (NumberedType-F.PrimitiveSlice b p d) = λ ns. held_rolled (NumberedType-F.PrimitiveSlice (fill_borrow b ns).0 p d)
  layer_kept (NumberedType-F.CustomTypeSlice b t d) = λ ns. held_rolled (NumberedType-F.CustomTypeSlice (fill_borrow b ns).0 (fill_type t.0 (fill_borrow b ns).1).0 d)
  layer_kept (NumberedType-F.Function ts t m) = λ ns.
      held_rolled (NumberedType-F.Function (fill_each (map fill_type (map (λ e. e.0) ts)) ns).0 (fill_type t.0 (fill_each (map fill_type (map (λ e. e.0) ts)) ns).1).0 m)
  layer_kept NumberedType-F.Unit = λ ns. held_rolled NumberedType-F.Unit

  pub filled_held : (t : NumberedType) → KeepsHeld t
  unfolding Kept
  filled_held = ind-NumberedType KeepsHeld (λ x y is ns.
      ap (λ (f : Fill NumberedType). ids_held catalog (f ns).0) (fold-roll-NumberedType (Fill NumberedType) level_fill x)
      ∙ subst LayerKeeps is (layer_kept y) ns ∙ sym (held_rolled x))

  -- ---- paths that are looked up

  -- what a path of the module leads to is a struct, by the catalog, exactly where the path names one
  module _ (names : Naming) (entered : (path : List (List ℕ)) → found_ids catalog (type_found (names.type_at path)) ≡ map (id_at catalog) (struct_named (names.type_at path))) where
    abbrev HeldIs : TypeName → Type 0
    HeldIs t = ids_held catalog (shape names t) ≡ map (id_at catalog) (structs_held names t)

    abbrev written : TypeName-F ((t : TypeName) × HeldIs t) → TypeName-F TypeName
    written y = map-TypeName ((t : TypeName) × HeldIs t) TypeName (λ e. e.0) y

    abbrev LayerIs : TypeName-F TypeName → Type 0
    LayerIs x =
        held_inside (level_shape names (map-TypeName TypeName NumberedType (shape names) x))
        ≡ map (id_at catalog) (level_structs names (map-TypeName TypeName (List ItemPlace) (structs_held names) x))

    unfoldable Shaped : TypeName-F ((t : TypeName) × HeldIs t) → Type 0
    Shaped y = LayerIs (written y)

    named_shape : (o : Option (Definition × Kind)) → held_inside (target_shape o (λ t. NumberedType-F.Named t)) ≡ found_ids catalog o
    named_shape None = refl
    named_shape (Some found) = refl

    self_shape : (o : Option (Definition × Kind)) → held_inside (target_shape o (λ t. NumberedType-F.SelfType t)) ≡ found_ids catalog o
    self_shape None = refl
    self_shape (Some found) = refl

    no_shape : (o : Option Definition) → held_inside (trait_shape o) ≡ []
    no_shape None = refl
    no_shape (Some found) = refl

    layer_shaped : (y : TypeName-F ((t : TypeName) × HeldIs t)) → Shaped y
    unfolding Shaped
    layer_shaped (TypeName-F.Primitive p) = refl
    layer_shaped TypeName-F.Ordering = refl
    layer_shaped (TypeName-F.Named p) = named_shape (type_found (names.type_at p.segments)) ∙ entered p.segments
    layer_shaped (TypeName-F.SelfType p) = self_shape (type_found (names.type_at p.segments)) ∙ entered p.segments
    layer_shaped (TypeName-F.ImplTrait p) = no_shape (trait_found (names.trait_at p.segments))
    layer_shaped (TypeName-F.Reference l m t) = t.1
    layer_shaped (TypeName-F.Box t) = refl
    layer_shaped (TypeName-F.Option t d) = t.1
    layer_shaped (TypeName-F.Result t e d) = refl
    layer_shaped (TypeName-F.Write w) = refl
    layer_shaped (TypeName-F.StrReference l e d) = refl
    layer_shaped (TypeName-F.StrSlice e d) = refl
    layer_shaped (TypeName-F.PrimitiveSlice b p d) = refl
    layer_shaped (TypeName-F.CustomTypeSlice b t d) = refl
    layer_shaped (TypeName-F.Function ts t m) = refl
    layer_shaped TypeName-F.Unit = refl

    shape_held : (t : TypeName) → HeldIs t
    unfolding Shaped
    shape_held = ind-TypeName HeldIs (λ x y is.
        ap (ids_held catalog) (fold-roll-TypeName NumberedType (λ z. roll-NumberedType (level_shape names z)) x)
        ∙ held_rolled (level_shape names (map-TypeName TypeName NumberedType (shape names) x))
        ∙ subst LayerIs is (layer_shaped y)
        ∙ sym (ap (map (id_at catalog)) (fold-roll-TypeName (List ItemPlace) (level_structs names) x)))

    -- so is what the filled type holds
    pub filled_is : (t : TypeName) (ns : NumberLists) → ids_held catalog (fill_type (shape names t) ns).0 ≡ map (id_at catalog) (structs_held names t)
    filled_is t ns = filled_held (shape names t) ns ∙ shape_held t
