-- The shape of a numbered type has the skeleton of the type, with the ids of structs in place of their places.
use Rattle.std.proofs.Common.{◌≡◌, ℕ, List, [], ◌∷◌, ◌++◌, Bool, true, false, Option, Some, None, refl, sym, ap, subst, ◌∙◌}
use Rattle.bridge_ast.specs.declared.place.ItemPlace.{ItemPlace}
use Rattle.bridge_decl.specs.declared.types.Mutability.{Mutability}
use Rattle.bridge_decl.specs.declared.types.PrimitiveType.{PrimitiveType}
use Rattle.bridge_decl.specs.declared.types.StdlibOrDiplomat.{StdlibOrDiplomat}
use Rattle.bridge_decl.specs.declared.types.StringEncoding.{StringEncoding}
use Rattle.bridge_order.specs.Catalog.{entry_at}
use Rattle.bridge_order.specs.declared.catalog.Catalog.{Catalog}
use Rattle.bridge_order.specs.declared.catalog.Entry.{Entry}
use Rattle.bridge_order.specs.declared.catalog.Entry.TheVariants as entry
use Rattle.bridge_rules.specs.Shapes.{box_shape, element_item, element_of, element_option, element_reference, item_shape, lent_for, level_element, level_entry, level_option, level_optional_element, named_entry, option_of_box, option_of_item, option_of_reference, reference_shape, shape_of, shape_of_level, slice_borrow, slice_of_primitives, struct_value, text_slice}
use Rattle.hir_form.specs.Forms.{Generics}
use Rattle.hir_form.specs.TypeForms.{generics_in, generics_step}
use Rattle.hir_ids.specs.declared.ids.TypeId.{TypeId}
use Rattle.hir_ids.specs.declared.ids.TypeId.TheVariants as type
use Rattle.hir_ids.specs.declared.owners.Borrow.{Borrow}
use Rattle.hir_life.specs.declared.maybe_static.MaybeStatic.{MaybeStatic}
use Rattle.hir_number.specs.declared.numbered.NumberedType.{NumberedType, map-NumberedType, out-NumberedType}
use Rattle.hir_number.specs.declared.numbered.NumberedType.TheOpen.{NumberedType-F}
use Rattle.hir_number.specs.declared.numbered.NumberedType.TheFolds.{fold_out-NumberedType}
use Rattle.hir_number.specs.declared.numbered.Target.{Target}
use Rattle.hir_skeleton.specs.Lowered.{carrier_of}
use Rattle.hir_skeleton.specs.Skeletons.{Skeleton, Nothing, Struct}
use Rattle.hir_types.specs.Slices.{at_most_one}
use Rattle.hir_readings.specs.Knowing.{id_there, known_as, type_id_of}
use Rattle.hir_readings.specs.NumberedSkeletons.{borrow_lifetime, lent_skeleton, level_absent_element, level_element_lifetimes, level_in_option, level_inside, level_lent, level_lent_element, level_skeleton, numbered_skeleton, stands_in_option, struct_generics, value_skeleton}
use Rattle.hir_readings.proofs.FormedLemmas.{ElementHas, ShapeHas, SliceHas, ValueHas, flat_carries, own_lifetime}

-- ---- generics

-- those of one level of a type
abbrev pub level_generics : NumberedType-F NumberedType → Generics
level_generics x = generics_step (map-NumberedType NumberedType Generics generics_in x)

generics_of_level : (ty : NumberedType) → generics_in ty ≡ level_generics (out-NumberedType ty)
generics_of_level ty = fold_out-NumberedType Generics generics_step ty

-- ---- carriers know no structs

known_carrier : {K L : Type 0} (f : K → L) (ls : List (MaybeStatic ℕ)) → carrier_of ls ≡ known_as f (carrier_of ls)
known_carrier f [] = refl
known_carrier f (l ∷ ls) = refl

pub own_is_borrow : (b : Option (MaybeStatic ℕ × Mutability)) → own_lifetime (slice_borrow b) ≡ borrow_lifetime b
own_is_borrow None = refl
own_is_borrow (Some b) = refl

-- ---- entries

-- a struct of that name and of that place
struct_named : (f : ItemPlace → TypeId) (id : ℕ) (b : Bool) (t : Target) → type.Struct id ≡ f t.place → ValueHas (known_as f (Struct t.place t.lifetimes)) t.lifetimes (struct_value id b)
struct_named f id true t is = ap (λ i. Struct i t.lifetimes) is
struct_named f id false t is = ap (λ i. Struct i t.lifetimes) is

out_struct_named : (s : Skeleton TypeId) (ls : Generics) (o : Bool) (id : ℕ) (b : Bool) → false ≡ o → ShapeHas s o ls (item_shape (entry.OutStruct id b))
out_struct_named s ls o id true k = (tt, k)
out_struct_named s ls o id false k = (tt, k)

out_struct_in_option : (s : Skeleton TypeId) (ls : Generics) (o : Bool) (id : ℕ) (b : Bool) (d : StdlibOrDiplomat) → true ≡ o → ShapeHas s o ls (option_of_item (entry.OutStruct id b) d)
out_struct_in_option s ls o id true d k = (tt, k)
out_struct_in_option s ls o id false d k = (tt, k)

struct_shaped : (f : ItemPlace → TypeId) (id : ℕ) (b : Bool) (t : Target) → type.Struct id ≡ f t.place → ShapeHas (known_as f (Struct t.place t.lifetimes)) false t.lifetimes (item_shape (entry.Struct id b))
struct_shaped f id b t is = (struct_named f id b t is, refl)

item_has : (f : ItemPlace → TypeId) (e : Entry) (t : Target) → type_id_of e ≡ f t.place → ShapeHas (known_as f (value_skeleton e t)) false t.lifetimes (item_shape e)
item_has f (entry.Struct id b) t is = struct_shaped f id b t is
item_has f (entry.OutStruct id b) t is = out_struct_named Nothing t.lifetimes false id b refl
item_has f (entry.Opaque id mark) t is = tt
item_has f (entry.Enum id) t is = (refl, refl)
item_has f (entry.Trait id) t is = (refl, refl)
item_has f (entry.Function id) t is = (refl, refl)

option_item_has : (f : ItemPlace → TypeId) (e : Entry) (t : Target) (d : StdlibOrDiplomat) → type_id_of e ≡ f t.place → ShapeHas (known_as f (value_skeleton e t)) true t.lifetimes (option_of_item e d)
option_item_has f (entry.Struct id b) t d is = (struct_named f id b t is, refl)
option_item_has f (entry.OutStruct id b) t d is = out_struct_in_option Nothing t.lifetimes true id b d refl
option_item_has f (entry.Opaque id mark) t d is = tt
option_item_has f (entry.Enum id) t d is = (refl, refl)
option_item_has f (entry.Trait id) t d is = tt
option_item_has f (entry.Function id) t d is = (refl, refl)

lent_has : (f : ItemPlace → TypeId) (b : Borrow) (e : Entry) (t : Target) → type_id_of e ≡ f t.place → ShapeHas (known_as f (lent_skeleton b.lifetime e t)) false t.lifetimes (reference_shape b (Some e))
lent_has f b (entry.Struct id has) t is = (ap (λ i. Struct i t.lifetimes) is, refl)
lent_has f b (entry.OutStruct id has) t is = tt
lent_has f b (entry.Opaque id mark) t is = (refl, refl)
lent_has f b (entry.Enum id) t is = tt
lent_has f b (entry.Trait id) t is = tt
lent_has f b (entry.Function id) t is = tt

option_lent_has : (f : ItemPlace → TypeId) (b : Borrow) (e : Entry) (t : Target) (d : StdlibOrDiplomat) → ShapeHas (known_as f (lent_skeleton b.lifetime e t)) true t.lifetimes (option_of_reference b (Some e) d)
option_lent_has f b (entry.Struct id has) t d = tt
option_lent_has f b (entry.OutStruct id has) t d = tt
option_lent_has f b (entry.Opaque id mark) t d = (refl, refl)
option_lent_has f b (entry.Enum id) t d = tt
option_lent_has f b (entry.Trait id) t d = tt
option_lent_has f b (entry.Function id) t d = tt

box_has : (s : Skeleton TypeId) (o : Bool) (ls : Generics) (e : Option Entry) → ShapeHas s o ls (box_shape e)
box_has s o ls None = tt
box_has s o ls (Some (entry.Struct id has)) = tt
box_has s o ls (Some (entry.OutStruct id has)) = tt
box_has s o ls (Some (entry.Opaque id mark)) = tt
box_has s o ls (Some (entry.Enum id)) = tt
box_has s o ls (Some (entry.Trait id)) = tt
box_has s o ls (Some (entry.Function id)) = tt

option_box_has : (s : Skeleton TypeId) (o : Bool) (ls : Generics) (e : Option Entry) (d : StdlibOrDiplomat) → ShapeHas s o ls (option_of_box e d)
option_box_has s o ls None d = tt
option_box_has s o ls (Some (entry.Struct id has)) d = tt
option_box_has s o ls (Some (entry.OutStruct id has)) d = tt
option_box_has s o ls (Some (entry.Opaque id mark)) d = tt
option_box_has s o ls (Some (entry.Enum id)) d = tt
option_box_has s o ls (Some (entry.Trait id)) d = tt
option_box_has s o ls (Some (entry.Function id)) d = tt

-- ---- elements

struct_element_has : (id : ℕ) (b : Bool) (ls : Generics) → ElementHas ls ls (element_item (entry.Struct id b))
struct_element_has id true ls = refl
struct_element_has id false ls = refl

out_element_has : (carried : List (MaybeStatic ℕ)) (id : ℕ) (b : Bool) (ls : Generics) → ElementHas carried ls (element_item (entry.OutStruct id b))
out_element_has carried id true ls = tt
out_element_has carried id false ls = tt

item_element_has : (e : Entry) (t : Target) → ElementHas (struct_generics e t) t.lifetimes (element_item e)
item_element_has (entry.Struct id b) t = struct_element_has id b t.lifetimes
item_element_has (entry.OutStruct id b) t = out_element_has [] id b t.lifetimes
item_element_has (entry.Opaque id mark) t = tt
item_element_has (entry.Enum id) t = refl
item_element_has (entry.Trait id) t = tt
item_element_has (entry.Function id) t = refl

lent_element_has : (b : Borrow) (e : Entry) (ls : Generics) → ElementHas (b.lifetime ∷ ls) ls (element_reference b (Some e))
lent_element_has b (entry.Struct id has) ls = tt
lent_element_has b (entry.OutStruct id has) ls = tt
lent_element_has b (entry.Opaque id mark) ls = refl
lent_element_has b (entry.Enum id) ls = tt
lent_element_has b (entry.Trait id) ls = tt
lent_element_has b (entry.Function id) ls = tt

absent_element_has : (b : Borrow) (e : Entry) (ls : Generics) (d : StdlibOrDiplomat) → ElementHas (b.lifetime ∷ ls) ls (element_option b (Some e) d)
absent_element_has b (entry.Struct id has) ls d = tt
absent_element_has b (entry.OutStruct id has) ls d = tt
absent_element_has b (entry.Opaque id mark) ls d = refl
absent_element_has b (entry.Enum id) ls d = tt
absent_element_has b (entry.Trait id) ls d = tt
absent_element_has b (entry.Function id) ls d = tt

module _ (catalog : Catalog) where
  -- ---- elements of slices, level by level

  lent_element_level : (b : Borrow) (x : NumberedType-F NumberedType) → ElementHas (level_lent_element b.lifetime x) (level_generics x) (element_reference b (level_entry catalog x))
  lent_element_level b (NumberedType-F.Named t) = lent_element_has b (entry_at catalog t.place) t.lifetimes
  lent_element_level b (NumberedType-F.SelfType t) = lent_element_has b (entry_at catalog t.place) t.lifetimes
  lent_element_level b _ = tt

  absent_element_level : (b : Borrow) (d : StdlibOrDiplomat) (x : NumberedType-F NumberedType) → ElementHas (level_lent_element b.lifetime x) (level_generics x) (element_option b (level_entry catalog x) d)
  absent_element_level b d (NumberedType-F.Named t) = absent_element_has b (entry_at catalog t.place) t.lifetimes d
  absent_element_level b d (NumberedType-F.SelfType t) = absent_element_has b (entry_at catalog t.place) t.lifetimes d
  absent_element_level b d _ = tt

  -- with the generics of the type in place of those of its level
  pub at_type : (P : Generics → Type 0) (ty : NumberedType) → P (level_generics (out-NumberedType ty)) → P (generics_in ty)
  at_type P ty h = subst P (sym (generics_of_level ty)) h

  optional_level : (d : StdlibOrDiplomat) (x : NumberedType-F NumberedType) → ElementHas (level_absent_element x) (level_generics x) (level_optional_element catalog d x)
  optional_level d (NumberedType-F.Reference l m t) =
      at_type (λ ls. ElementHas (level_lent_element l (out-NumberedType t)) ls (element_option (lent_for l m) (named_entry catalog t) d)) t (absent_element_level (lent_for l m) d (out-NumberedType t))
  optional_level d _ = tt

  element_level : (x : NumberedType-F NumberedType) → ElementHas (level_element_lifetimes catalog x) (level_generics x) (level_element catalog x)
  element_level (NumberedType-F.Named t) = item_element_has (entry_at catalog t.place) t
  element_level (NumberedType-F.SelfType t) = item_element_has (entry_at catalog t.place) t
  element_level (NumberedType-F.Reference l m t) =
      at_type (λ ls. ElementHas (level_lent_element l (out-NumberedType t)) ls (element_reference (lent_for l m) (named_entry catalog t))) t (lent_element_level (lent_for l m) (out-NumberedType t))
  element_level (NumberedType-F.Option t d) =
      at_type (λ ls. ElementHas (level_absent_element (out-NumberedType t)) ls (level_optional_element catalog d (out-NumberedType t))) t (optional_level d (out-NumberedType t))
  element_level _ = tt

  -- ---- types, level by level

  abbrev known : Skeleton ItemPlace → Skeleton TypeId
  known = known_as (id_there catalog)

  lent_level : (b : Borrow) (x : NumberedType-F NumberedType) → ShapeHas (known (level_lent catalog b.lifetime x)) false (level_generics x) (reference_shape b (level_entry catalog x))
  lent_level b (NumberedType-F.Named t) = lent_has (id_there catalog) b (entry_at catalog t.place) t refl
  lent_level b (NumberedType-F.SelfType t) = lent_has (id_there catalog) b (entry_at catalog t.place) t refl
  lent_level b _ = tt

  option_lent_level : (b : Borrow) (d : StdlibOrDiplomat) (x : NumberedType-F NumberedType)
      → ShapeHas (known (level_lent catalog b.lifetime x)) true (level_generics x) (option_of_reference b (level_entry catalog x) d)
  option_lent_level b d (NumberedType-F.Named t) = option_lent_has (id_there catalog) b (entry_at catalog t.place) t d
  option_lent_level b d (NumberedType-F.SelfType t) = option_lent_has (id_there catalog) b (entry_at catalog t.place) t d
  option_lent_level b d _ = tt

  text_has : (l : Option (MaybeStatic ℕ)) (e : StringEncoding) → carrier_of (flat_carries (text_slice l e)) ≡ known (carrier_of (at_most_one l))
  text_has None e = refl
  text_has (Some l) e = refl

  primitives_have : (b : Option (MaybeStatic ℕ × Mutability)) (p : PrimitiveType) → carrier_of (flat_carries (slice_of_primitives b p)) ≡ known (carrier_of (borrow_lifetime b))
  primitives_have None p = refl
  primitives_have (Some b) p = refl

  option_level : (d : StdlibOrDiplomat) (x : NumberedType-F NumberedType) → ShapeHas (known (level_inside catalog x)) true (level_generics x) (level_option catalog d x)
  option_level d (NumberedType-F.Primitive p) = (refl, refl)
  option_level d (NumberedType-F.Named t) = option_item_has (id_there catalog) (entry_at catalog t.place) t d refl
  option_level d (NumberedType-F.SelfType t) = option_item_has (id_there catalog) (entry_at catalog t.place) t d refl
  option_level d (NumberedType-F.Reference l m t) =
      at_type (λ ls. ShapeHas (known (level_lent catalog l (out-NumberedType t))) true ls (option_of_reference (lent_for l m) (named_entry catalog t) d)) t (option_lent_level (lent_for l m) d (out-NumberedType t))
  option_level d (NumberedType-F.Box t) = option_box_has Nothing true (generics_in t) (named_entry catalog t) d
  option_level d (NumberedType-F.StrSlice e c) = (refl, refl)
  option_level d (NumberedType-F.StrReference l e c) = (text_has l e, refl)
  option_level d (NumberedType-F.PrimitiveSlice b p c) = (primitives_have b p, refl)
  option_level d _ = tt

  slice_has : (b : Option (MaybeStatic ℕ × Mutability)) (t : NumberedType)
      → SliceHas (known (carrier_of (borrow_lifetime b ++ level_element_lifetimes catalog (out-NumberedType t)))) (generics_in t) (slice_borrow b) (element_of catalog t)
  slice_has b t =
      record {
        carried = level_element_lifetimes catalog (out-NumberedType t);
        elements = at_type (λ ls. ElementHas (level_element_lifetimes catalog (out-NumberedType t)) ls (element_of catalog t)) t (element_level (out-NumberedType t));
        whole = ap (λ own. carrier_of (own ++ level_element_lifetimes catalog (out-NumberedType t))) (own_is_borrow b)
            ∙ known_carrier (id_there catalog) (borrow_lifetime b ++ level_element_lifetimes catalog (out-NumberedType t));
      }

  shape_level : (x : NumberedType-F NumberedType) → ShapeHas (known (level_skeleton catalog x)) (level_in_option x) (level_generics x) (shape_of_level catalog x)
  shape_level (NumberedType-F.Primitive p) = (refl, refl)
  shape_level NumberedType-F.Ordering = (refl, refl)
  shape_level (NumberedType-F.Named t) = item_has (id_there catalog) (entry_at catalog t.place) t refl
  shape_level (NumberedType-F.SelfType t) = item_has (id_there catalog) (entry_at catalog t.place) t refl
  shape_level (NumberedType-F.ImplTrait t) = (refl, refl)
  shape_level (NumberedType-F.Reference l m t) =
      at_type (λ ls. ShapeHas (known (level_lent catalog l (out-NumberedType t))) false ls (reference_shape (lent_for l m) (named_entry catalog t))) t (lent_level (lent_for l m) (out-NumberedType t))
  shape_level (NumberedType-F.Box t) = box_has Nothing false (generics_in t) (named_entry catalog t)
  shape_level (NumberedType-F.Option t d) =
      at_type (λ ls. ShapeHas (known (level_inside catalog (out-NumberedType t))) true ls (level_option catalog d (out-NumberedType t))) t (option_level d (out-NumberedType t))
  shape_level (NumberedType-F.Result t e d) = tt
  shape_level (NumberedType-F.Write w) = tt
  shape_level (NumberedType-F.StrReference l e d) = (text_has l e, refl)
  shape_level (NumberedType-F.StrSlice e d) = (refl, refl)
  shape_level (NumberedType-F.PrimitiveSlice b p d) = (primitives_have b p, refl)
  shape_level (NumberedType-F.CustomTypeSlice b t d) = (slice_has b t, refl)
  shape_level (NumberedType-F.Function ts t m) = tt
  shape_level NumberedType-F.Unit = tt

  pub shape_has : (ty : NumberedType) → ShapeHas (known_as (id_there catalog) (numbered_skeleton catalog ty)) (stands_in_option ty) (generics_in ty) (shape_of catalog ty)
  shape_has ty = at_type (λ ls. ShapeHas (known (numbered_skeleton catalog ty)) (stands_in_option ty) ls (shape_of catalog ty)) ty (shape_level (out-NumberedType ty))
