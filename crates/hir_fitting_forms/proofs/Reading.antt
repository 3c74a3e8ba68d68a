-- A declared type whose names fit, filled with numbers of its lifetimes, fits.
use Rattle.std.proofs.Common.{◌≡◌, ℕ, List, [], ◌∷◌, ◌++◌, length, map, true, false, Option, Some, None, refl, sym, ap, subst, ◌∙◌}
use Rattle.std.specs.Prelude.{option_map}
use Rattle.std.specs.List.{flat_map}
use Rattle.bridge_decl.specs.declared.lifetimes.Lifetime.{Lifetime}
use Rattle.bridge_decl.specs.declared.paths.PathType.{PathType}
use Rattle.bridge_decl.specs.declared.types.Mutability.{Mutability}
use Rattle.bridge_decl.specs.declared.types.TypeName.{TypeName, map-TypeName, roll-TypeName}
use Rattle.bridge_decl.specs.declared.types.TypeName.TheOpen.{TypeName-F}
use Rattle.bridge_decl.specs.declared.types.TypeName.TheFolds.{fold-roll-TypeName, ind-TypeName}
use Rattle.bridge_order.specs.Catalog.{entry_at}
use Rattle.bridge_order.specs.declared.catalog.Catalog.{Catalog}
use Rattle.hir_elide.proofs.BelowLemmas.{Each}
use Rattle.hir_fitting.specs.declared.census.Census.{Census}
use Rattle.hir_ids.specs.declared.ids.SymbolId.{SymbolId}
use Rattle.hir_life.specs.Substitution.{AreBelow, IsBelow}
use Rattle.hir_life.specs.declared.maybe_static.MaybeStatic.{MaybeStatic}
use Rattle.hir_life.specs.declared.maybe_static.MaybeStatic.TheVariants.{Static}
use Rattle.hir_number.proofs.FaultLemmas.{each_both}
use Rattle.hir_number.specs.Naming.{Definition, Naming, trait_found, type_found}
use Rattle.hir_number.specs.Shapes.{NumberLists, borrow_shape, level_shape, optional_shape, shape, target_shape, trait_shape}
use Rattle.hir_number.specs.Uses.{Use, One, Path, borrow_uses, concatenated, level_uses, optional_uses, type_uses}
use Rattle.hir_number.specs.declared.numbered.Kind.{Kind}
use Rattle.hir_number.specs.declared.numbered.NumberedType.{NumberedType, map-NumberedType, roll-NumberedType}
use Rattle.hir_number.specs.declared.numbered.NumberedType.TheOpen.{NumberedType-F}
use Rattle.hir_number.specs.declared.numbered.NumberedType.TheFolds.{fold-roll-NumberedType}
use Rattle.hir_stages.specs.Filling.{Fill, fill_borrow, fill_each, fill_optional, fill_type, level_fill}
use Rattle.hir_fitting_forms.specs.Names.{NumberedName, borrow_names, level_names, names_in_type, names_in_types, text_names}
use Rattle.hir_fitting_forms.specs.Naming.{HasCount, NamesFit}
use Rattle.hir_fitting_forms.specs.NumberedFits.{NameFits, PathFits, trait_entered, type_entered}

-- ---- numbers of uses

-- the numbers of a use: as many as it has lifetimes, and each is one of so many. What names nothing has none
abbrev pub Serves : ℕ → Use → List (MaybeStatic ℕ) → Type 0
Serves count (One l) (n ∷ []) = IsBelow count n
Serves count (One l) _ = ⊥
Serves count (Path is_self path None) ns = ⊥
Serves count (Path is_self path (Some found)) ns = (length ns ≡ found.count) × AreBelow count ns

-- the first lists are those of these uses, and the rest are left
abbrev pub Feeds : ℕ → List Use → NumberLists → NumberLists → Type 0
Feeds count [] ns rest = ns ≡ rest
Feeds count (u ∷ us) [] rest = ⊥
Feeds count (u ∷ us) (l ∷ ls) rest = Serves count u l × Feeds count us ls rest

pub parted : (count : ℕ) (us vs : List Use) (ns rest : NumberLists) → Feeds count (us ++ vs) ns rest → (mid : NumberLists) × (Feeds count us ns mid × Feeds count vs mid rest)
parted count [] vs ns rest h = (ns, (refl, h))
parted count (u ∷ us) vs [] rest h = absurd h
parted count (u ∷ us) vs (l ∷ ls) rest h = let found = parted count us vs ls rest h.1 in (found.0, ((h.0, found.1.0), found.1.1))

module _ (census : Census) (catalog : Catalog) (count : ℕ) where
  abbrev Fit : NumberedName → Type 0
  Fit = NameFits census catalog count

  -- what was filled names what fits, and this is left
  abbrev pub Leaves : {A : Type 0} → (A → List NumberedName) → A × NumberLists → NumberLists → Type 0
  Leaves names filled rest = Each Fit (names filled.0) × (filled.1 ≡ rest)

  -- so it is wherever the numbers of these uses are filled in
  abbrev pub Reads : {A : Type 0} → Fill A → (A → List NumberedName) → List Use → Type 0
  Reads fill names us = (ns rest : NumberLists) → Feeds count us ns rest → Leaves names (fill ns) rest

  -- one after the other
  pub read_both : {A B : Type 0} (f : Fill A) (g : Fill B) (first : A → List NumberedName) (second : B → List NumberedName) (us vs : List Use) → Reads f first us → Reads g second vs
      → (ns rest : NumberLists) → Feeds count (us ++ vs) ns rest → Each Fit (first (f ns).0) × Leaves second (g (f ns).1) rest
  read_both f g first second us vs reads after ns rest h =
      let mid = parted count us vs ns rest h in
      let here = reads ns mid.0 mid.1.0 in
      (here.0, subst (λ left. Leaves second (g left) rest) (sym here.1) (after mid.0 rest mid.1.1))

  -- a path to something that is there
  pub leads : (id : Option SymbolId) (ns : List (MaybeStatic ℕ)) (n : ℕ) → HasCount census id n → (length ns ≡ n) × AreBelow count ns → PathFits census count id ns
  leads (Some id) ns n has serves = (has ∙ ap (λ k. Some k) (sym serves.0), serves.1)
  leads None ns n has serves = absurd has

  -- ---- borrows

  pub borrow_reads : (b : Option (Lifetime × Mutability)) → Reads (fill_borrow (borrow_shape b)) borrow_names (borrow_uses b)
  borrow_reads None ns rest h = (tt, h)
  borrow_reads (Some b) ((n ∷ []) ∷ ls) rest h = ((h.0, tt), h.1)
  borrow_reads (Some b) ((n ∷ m ∷ l) ∷ ls) rest h = absurd h.0
  borrow_reads (Some b) ([] ∷ ls) rest h = absurd h.0
  borrow_reads (Some b) [] rest h = absurd h

  text_reads : (l : Option Lifetime) → Reads (fill_optional (optional_shape l)) text_names (optional_uses l)
  text_reads None ns rest h = (tt, h)
  text_reads (Some b) ((n ∷ []) ∷ ls) rest h = ((h.0, tt), h.1)
  text_reads (Some b) ((n ∷ m ∷ l) ∷ ls) rest h = absurd h.0
  text_reads (Some b) ([] ∷ ls) rest h = absurd h.0
  text_reads (Some b) [] rest h = absurd h

  -- ---- types

  -- one level
  rolled_fits : (x : NumberedType-F NumberedType) → Each Fit (level_names (map-NumberedType NumberedType (List NumberedName) names_in_type x)) → Each Fit (names_in_type (roll-NumberedType x))
  rolled_fits x h = subst (Each Fit) (sym (fold-roll-NumberedType (List NumberedName) level_names x)) h

  -- the layer of a bare type, filled
  abbrev Layer : NumberedType-F NumberedType → List Use → Type 0
  Layer x us = (ns rest : NumberLists) → Feeds count us ns rest → Leaves names_in_type (level_fill (map-NumberedType NumberedType (Fill NumberedType) fill_type x) ns) rest

  module _ (names : Naming) (fit : NamesFit census catalog names) where
    -- ---- paths

    named_layer : (path : PathType) (o : Option (Definition × Kind)) → type_found (names.type_at path.segments) ≡ o
        → Layer (target_shape o (λ t. NumberedType-F.Named t)) (Path false path (option_map (λ found. found.0) o) ∷ [])
    named_layer path (Some found) is (l ∷ ls) rest h = (
      rolled_fits (NumberedType-F.Named (record { place = found.0.place; kind = found.1; lifetimes = l }))
          (leads (type_entered (entry_at catalog found.0.place)) l found.0.count (fit.types path.segments found is) h.0, tt),
      h.1,
    )
    named_layer path (Some found) is [] rest h = absurd h
    named_layer path None is [] rest h = absurd h
    named_layer path None is (l ∷ ls) rest h = absurd h.0

    self_layer : (path : PathType) (o : Option (Definition × Kind)) → type_found (names.type_at path.segments) ≡ o
        → Layer (target_shape o (λ t. NumberedType-F.SelfType t)) (Path true path (option_map (λ found. found.0) o) ∷ [])
    self_layer path (Some found) is (l ∷ ls) rest h = (
      rolled_fits (NumberedType-F.SelfType (record { place = found.0.place; kind = found.1; lifetimes = l }))
          (leads (type_entered (entry_at catalog found.0.place)) l found.0.count (fit.types path.segments found is) h.0, tt),
      h.1,
    )
    self_layer path (Some found) is [] rest h = absurd h
    self_layer path None is [] rest h = absurd h
    self_layer path None is (l ∷ ls) rest h = absurd h.0

    trait_layer : (path : PathType) (o : Option Definition) → trait_found (names.trait_at path.segments) ≡ o → Layer (trait_shape o) (Path false path o ∷ [])
    trait_layer path (Some found) is (l ∷ ls) rest h = (
      rolled_fits (NumberedType-F.ImplTrait (record { place = found.place; lifetimes = l }))
          (leads (trait_entered (entry_at catalog found.place)) l found.count (fit.traits path.segments found is) h.0, tt),
      h.1,
    )
    trait_layer path (Some found) is [] rest h = absurd h
    trait_layer path None is [] rest h = absurd h
    trait_layer path None is (l ∷ ls) rest h = absurd h.0

    -- ---- types

    abbrev pub filled_type : TypeName → Fill NumberedType
    filled_type t = fill_type (shape names t)

    abbrev Claim : TypeName → Type 0
    Claim t = Reads (filled_type t) names_in_type (type_uses names t)

    reference_layer : (l : Lifetime) (m : Mutability) (t : TypeName) → Claim t → Layer (NumberedType-F.Reference Static m (shape names t)) (One l ∷ type_uses names t)
    reference_layer l m t reads ((n ∷ []) ∷ ls) rest h =
        let inside = reads ls rest h.1 in
        (rolled_fits (NumberedType-F.Reference n m (filled_type t ls).0) (h.0, inside.0), inside.1)
    reference_layer l m t reads ((n ∷ k ∷ ns) ∷ ls) rest h = absurd h.0
    reference_layer l m t reads ([] ∷ ls) rest h = absurd h.0
    reference_layer l m t reads [] rest h = absurd h

    abbrev plain : TypeName-F ((t : TypeName) × Claim t) → TypeName-F TypeName
    plain y = map-TypeName ((t : TypeName) × Claim t) TypeName (λ e. e.0) y

    abbrev types_of : List ((t : TypeName) × Claim t) → List TypeName
    types_of ys = map (λ e. e.0) ys

    each_reads : (ys : List ((t : TypeName) × Claim t)) → Reads (fill_each (map fill_type (map (shape names) (types_of ys)))) names_in_types (concatenated (map (type_uses names) (types_of ys)))
    each_reads [] ns rest h = (tt, h)
    each_reads (y ∷ ys) ns rest h =
        let others = fill_each (map fill_type (map (shape names) (types_of ys))) in
        let both = read_both (filled_type y.0) others names_in_type names_in_types (type_uses names y.0) (concatenated (map (type_uses names) (types_of ys))) y.1 (each_reads ys) ns rest h in
        (each_both Fit (names_in_type (filled_type y.0 ns).0) (names_in_types (others (filled_type y.0 ns).1).0) both.0 both.1.0, both.1.1)

    abbrev LayerOf : TypeName-F TypeName → Type 0
    LayerOf x = Layer (level_shape names (map-TypeName TypeName NumberedType (shape names) x)) (level_uses names (map-TypeName TypeName (List Use) (type_uses names) x))

    unfoldable Layered : TypeName-F ((t : TypeName) × Claim t) → Type 0
    Layered y = LayerOf (plain y)

    layer : (y : TypeName-F ((t : TypeName) × Claim t)) → Layered y
    unfolding Layered
    layer (TypeName-F.Primitive p) = λ ns rest h. (rolled_fits (NumberedType-F.Primitive p) tt, h)
    layer TypeName-F.Ordering = λ ns rest h. (rolled_fits NumberedType-F.Ordering tt, h)
    layer (TypeName-F.Named p) = named_layer p (type_found (names.type_at p.segments)) refl
    layer (TypeName-F.SelfType p) = self_layer p (type_found (names.type_at p.segments)) refl
    layer (TypeName-F.ImplTrait p) = trait_layer p (trait_found (names.trait_at p.segments)) refl
    layer (TypeName-F.Reference l m t) = reference_layer l m t.0 t.1
    layer (TypeName-F.Box t) = λ ns rest h. let inside = t.1 ns rest h in (rolled_fits (NumberedType-F.Box (filled_type t.0 ns).0) inside.0, inside.1)
    layer (TypeName-F.Option t d) = λ ns rest h. let inside = t.1 ns rest h in (rolled_fits (NumberedType-F.Option (filled_type t.0 ns).0 d) inside.0, inside.1)
    layer (TypeName-F.Result t e d) = λ ns rest h.
        let both = read_both (filled_type t.0) (filled_type e.0) names_in_type names_in_type (type_uses names t.0) (type_uses names e.0) t.1 e.1 ns rest h in
        let first = (filled_type t.0 ns).0 in
        let second = (filled_type e.0 (filled_type t.0 ns).1).0 in
        (rolled_fits (NumberedType-F.Result first second d) (each_both Fit (names_in_type first) (names_in_type second) both.0 both.1.0), both.1.1)
    layer (TypeName-F.Write w) = λ ns rest h. (rolled_fits (NumberedType-F.Write w) tt, h)
    layer (TypeName-F.StrReference l e d) = λ ns rest h.
        let own = text_reads l ns rest h in
        (rolled_fits (NumberedType-F.StrReference (fill_optional (optional_shape l) ns).0 e d) own.0, own.1)
    layer (TypeName-F.StrSlice e d) = λ ns rest h. (rolled_fits (NumberedType-F.StrSlice e d) tt, h)
    layer (TypeName-F.PrimitiveSlice b p d) = λ ns rest h.
        let own = borrow_reads b ns rest h in
        (rolled_fits (NumberedType-F.PrimitiveSlice (fill_borrow (borrow_shape b) ns).0 p d) own.0, own.1)
    layer (TypeName-F.CustomTypeSlice b t d) = λ ns rest h.
        let both = read_both (fill_borrow (borrow_shape b)) (filled_type t.0) borrow_names names_in_type (borrow_uses b) (type_uses names t.0) (borrow_reads b) t.1 ns rest h in
        let first = (fill_borrow (borrow_shape b) ns).0 in
        let second = (filled_type t.0 (fill_borrow (borrow_shape b) ns).1).0 in
        (rolled_fits (NumberedType-F.CustomTypeSlice first second d) (each_both Fit (borrow_names first) (names_in_type second) both.0 both.1.0), both.1.1)
    layer (TypeName-F.Function ts t m) = λ ns rest h.
        let inputs = fill_each (map fill_type (map (shape names) (types_of ts))) in
        let both = read_both inputs (filled_type t.0) names_in_types names_in_type (concatenated (map (type_uses names) (types_of ts))) (type_uses names t.0) (each_reads ts) t.1 ns rest h in
        let first = (inputs ns).0 in
        let second = (filled_type t.0 (inputs ns).1).0 in
        (rolled_fits (NumberedType-F.Function first second m) (each_both Fit (names_in_types first) (names_in_type second) both.0 both.1.0), both.1.1)
    layer TypeName-F.Unit = λ ns rest h. (rolled_fits NumberedType-F.Unit tt, h)

    filled_rolled : (x : TypeName-F TypeName)
        → filled_type (roll-TypeName x) ≡ level_fill (map-NumberedType NumberedType (Fill NumberedType) fill_type (level_shape names (map-TypeName TypeName NumberedType (shape names) x)))
    filled_rolled x =
        ap fill_type (fold-roll-TypeName NumberedType (λ z. roll-NumberedType (level_shape names z)) x)
        ∙ fold-roll-NumberedType (Fill NumberedType) level_fill (level_shape names (map-TypeName TypeName NumberedType (shape names) x))

    -- each type
    pub type_reads : (t : TypeName) → Claim t
    unfolding Layered
    type_reads = ind-TypeName Claim (λ x y is ns rest h.
        subst (λ f. Leaves names_in_type (f ns) rest) (sym (filled_rolled x))
        (subst LayerOf is (layer y) ns rest (subst (λ us. Feeds count us ns rest) (fold-roll-TypeName (List Use) (level_uses names) x) h)))

    -- types, one after another
    pub types_read : {A : Type 0} (type_in : A → TypeName) (xs : List A) → Reads (fill_each (map fill_type (map (λ x. shape names (type_in x)) xs))) names_in_types (flat_map (λ x. type_uses names (type_in x)) xs)
    types_read type_in [] ns rest h = (tt, h)
    types_read type_in (x ∷ xs) ns rest h =
        let others = fill_each (map fill_type (map (λ x. shape names (type_in x)) xs)) in
        let both = read_both (filled_type (type_in x)) others names_in_type names_in_types (type_uses names (type_in x)) (flat_map (λ x. type_uses names (type_in x)) xs)
        (type_reads (type_in x)) (types_read type_in xs) ns rest h in
        (each_both Fit (names_in_type (filled_type (type_in x) ns).0) (names_in_types (others (filled_type (type_in x) ns).1).0) both.0 both.1.0, both.1.1)
