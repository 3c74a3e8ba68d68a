-- The skeleton of what a shape stands for.
use Rattle.std.proofs.Common.{◌≡◌, ℕ, List, [], ◌∷◌, ◌++◌, Bool, true, false, Option, Some, None, refl, ap, ◌∙◌}
use Rattle.std.specs.Prelude.{⊤, IfSome, option_map}
use Rattle.bridge_rules.specs.declared.shape.Element.{Element}
use Rattle.bridge_rules.specs.declared.shape.Element.TheVariants as element
use Rattle.bridge_rules.specs.declared.shape.FlatSlice.{FlatSlice}
use Rattle.bridge_rules.specs.declared.shape.FlatSlice.TheVariants as flat
use Rattle.bridge_rules.specs.declared.shape.Shape.{Shape}
use Rattle.bridge_rules.specs.declared.shape.Shape.TheVariants as shape
use Rattle.bridge_rules.specs.declared.shape.Value.{Value}
use Rattle.bridge_rules.specs.declared.shape.Value.TheVariants as value
use Rattle.hir_form.specs.Forms.{Generics, elements_form, enum_path, flat_form, opaque_path, option_type, primitive_form, shape_form, slice_type, struct_path, struct_type, trait_path, trait_type, value_form}
use Rattle.hir_form.specs.Makers.{coming_in}
use Rattle.hir_ids.specs.Owners.{owner_of}
use Rattle.hir_ids.specs.declared.ids.TypeId.{TypeId}
use Rattle.hir_ids.specs.declared.ids.TypeId.TheVariants as type
use Rattle.hir_ids.specs.declared.owners.Borrow.{Borrow}
use Rattle.hir_ids.specs.declared.owners.MaybeOwn.{MaybeOwn}
use Rattle.hir_ids.specs.declared.owners.MaybeOwn.TheVariants as owner
use Rattle.hir_ids.specs.declared.primitives.PrimitiveType.TheVariants as primitive
use Rattle.hir_life.specs.declared.maybe_static.MaybeStatic.{MaybeStatic}
use Rattle.hir_skeleton.specs.Lowered.{carrier_of, skeleton_of, skeleton_step, slice_carries}
use Rattle.hir_skeleton.specs.Skeletons.{Skeleton, Nothing, Carrier, Struct}
use Rattle.hir_types.specs.Slices.{at_most_one, lifetime_of}
use Rattle.hir_types.specs.Types.{is_option, is_option_layer}
use Rattle.hir_types.specs.declared.paths.StructPath.{StructPath}
use Rattle.hir_types.specs.declared.paths.TraitPath.{TraitPath}
use Rattle.hir_types.specs.declared.slices.Slice.{Slice}
use Rattle.hir_types.specs.declared.slices.Slice.TheVariants as slice
use Rattle.hir_types.specs.declared.types.HirType.{HirType, map-HirType, out-roll-HirType, roll-HirType}
use Rattle.hir_types.specs.declared.types.HirType.TheOpen.{HirType-F}
use Rattle.hir_types.specs.declared.types.HirType.TheFolds.{fold-roll-HirType}

-- ---- what shapes have, where the one path in them gives these lifetimes; nothing is said of those that stand for nothing

abbrev pub ValueHas : Skeleton TypeId → Generics → Value → Type 0
ValueHas s ls (value.Primitive p) = Nothing ≡ s
ValueHas s ls (value.Enum id) = Nothing ≡ s
ValueHas s ls (value.Struct id) = Struct (type.Struct id) ls ≡ s
ValueHas s ls (value.Empty id) = Struct (type.Struct id) ls ≡ s
ValueHas s ls (value.EmptyOut id) = ⊤
ValueHas s ls (value.OutStruct id) = ⊤

abbrev pub flat_carries : FlatSlice → List (MaybeStatic ℕ)
flat_carries (flat.Str l e) = l ∷ []
flat_carries (flat.OwnedStr e) = []
flat_carries (flat.Primitives b p) = b.lifetime ∷ []
flat_carries (flat.OwnedPrimitives p) = []

abbrev pub own_lifetime : Option Borrow → List (MaybeStatic ℕ)
own_lifetime None = []
own_lifetime (Some b) = b.lifetime ∷ []

abbrev pub ElementHas : List (MaybeStatic ℕ) → Generics → Element → Type 0
ElementHas carried ls (element.Value (value.Primitive p)) = ⊤
ElementHas carried ls (element.Value (value.Enum id)) = [] ≡ carried
ElementHas carried ls (element.Value (value.Struct id)) = ls ≡ carried
ElementHas carried ls (element.Value (value.Empty id)) = ls ≡ carried
ElementHas carried ls (element.Value (value.EmptyOut id)) = ⊤
ElementHas carried ls (element.Value (value.OutStruct id)) = ⊤
ElementHas carried ls element.Opaque = ⊤
ElementHas carried ls (element.OpaqueReference b id mark) = b.lifetime ∷ ls ≡ carried
ElementHas carried ls (element.OpaqueOption b id d) = b.lifetime ∷ ls ≡ carried
ElementHas carried ls element.Other = ⊤

-- a slice has the skeleton of its own lifetime and then of those of its elements
pub record SliceHas (s : Skeleton TypeId) (ls : Generics) (b : Option Borrow) (e : Element) : Type 0 where
  pub carried : List (MaybeStatic ℕ)
  pub elements : ElementHas carried ls e
  pub whole : carrier_of (own_lifetime b ++ carried) ≡ s

-- what a shape stands for has this skeleton, and is in an option or isn't
abbrev pub ShapeHas : Skeleton TypeId → Bool → Generics → Shape → Type 0
ShapeHas s o ls (shape.Value v) = ValueHas s ls v × (false ≡ o)
ShapeHas s o ls shape.Ordering = (Nothing ≡ s) × (false ≡ o)
ShapeHas s o ls (shape.ImplTrait id) = (Nothing ≡ s) × (false ≡ o)
ShapeHas s o ls (shape.OpaqueReference b id mark) = (Carrier (b.lifetime ∷ ls) ≡ s) × (false ≡ o)
ShapeHas s o ls (shape.StructReference b id) = (Struct (type.Struct id) ls ≡ s) × (false ≡ o)
ShapeHas s o ls (shape.OptionOfReference b id d) = (Carrier (b.lifetime ∷ ls) ≡ s) × (true ≡ o)
ShapeHas s o ls (shape.OptionOfValue v d) = ValueHas s ls v × (true ≡ o)
ShapeHas s o ls (shape.OptionOfStrings e) = (Nothing ≡ s) × (true ≡ o)
ShapeHas s o ls (shape.OptionOfFlat f) = (carrier_of (flat_carries f) ≡ s) × (true ≡ o)
ShapeHas s o ls (shape.Flat f) = (carrier_of (flat_carries f) ≡ s) × (false ≡ o)
ShapeHas s o ls (shape.Strings e) = (Nothing ≡ s) × (false ≡ o)
ShapeHas s o ls (shape.Slice b e) = SliceHas s ls b e × (false ≡ o)
ShapeHas s o ls _ = ⊤

-- ---- what is made

if_made : {A B : Type 0} (Q : A → Type 0) (P : B → Type 0) (f : A → B) → ((a : A) → Q a → P (f a)) → (x : Option A) → IfSome x Q → IfSome (option_map f x) P
if_made Q P f makes (Some a) h = makes a h
if_made Q P f makes None h = tt

if_any : {A B : Type 0} (P : B → Type 0) (f : A → B) → ((a : A) → P (f a)) → (x : Option A) → IfSome (option_map f x) P
if_any P f makes (Some a) = makes a
if_any P f makes None = tt

held_lifetime : (b : Option Borrow) → at_most_one (lifetime_of (owner_of b)) ≡ own_lifetime b
held_lifetime None = refl
held_lifetime (Some b) = refl

-- over the rest of a position at which things come in
module _ (P C I : Type 0) {T : Type 0} (implementing : TraitPath → Option T) where
  abbrev pub Made : Type 0
  Made = HirType P C Borrow I StructPath T

  abbrev pub made_skeleton : Made → Skeleton TypeId
  made_skeleton = skeleton_of Some (λ path. type.Struct path.tcx_id) (λ path. path.lifetimes) (λ path. path.owner)

  abbrev carries : Slice P C Borrow I StructPath T → List (MaybeStatic ℕ)
  carries = slice_carries (λ path. path.lifetimes) (λ path. path.owner)

  -- it has this skeleton, and is in an option or isn't
  abbrev pub Has : Skeleton TypeId → Bool → Made → Type 0
  Has s o t = (made_skeleton t ≡ s) × (is_option t ≡ o)

  abbrev one_level : HirType-F P C Borrow I StructPath T Made → Skeleton TypeId
  one_level x =
      skeleton_step Some (λ path. type.Struct path.tcx_id) (λ path. path.lifetimes) (λ path. path.owner) (map-HirType _ _ _ _ _ _ _ _ made_skeleton x)

  pub rolled : (x : HirType-F P C Borrow I StructPath T Made) (s : Skeleton TypeId) (o : Bool) → one_level x ≡ s → is_option_layer x ≡ o → Has s o (roll-HirType _ _ _ _ _ _ x)
  rolled x s o h k = (
    fold-roll-HirType _ _ _ _ _ _ (Skeleton TypeId) (skeleton_step Some (λ path. type.Struct path.tcx_id) (λ path. path.lifetimes) (λ path. path.owner)) x ∙ h,
    ap is_option_layer (out-roll-HirType _ _ _ _ _ _ x) ∙ k,
  )

  option_made : (s : Skeleton TypeId) (o : Bool) → true ≡ o → (t : Made) → made_skeleton t ≡ s → Has s o (option_type t)
  option_made s o k t h = rolled (HirType-F.DiplomatOption t) s o h k

  struct_made : (ls : Generics) (id : ℕ) (held : MaybeOwn) (s : Skeleton TypeId) (o : Bool) → Struct (type.Struct id) ls ≡ s → false ≡ o → Has s o (struct_type (struct_path ls id held))
  struct_made ls id held s o h k = rolled (HirType-F.Struct (struct_path ls id held)) s o h k

  value_made : (ls : Generics) (v : Value) (s : Skeleton TypeId) (o : Bool) → ValueHas s ls v → false ≡ o → IfSome (value_form {P = P} {C = C} {I = I} (coming_in implementing) ls v) (Has s o)
  value_made ls (value.Primitive p) s o h k = rolled (HirType-F.Primitive (primitive_form p)) s o h k
  value_made ls (value.Enum id) s o h k = rolled (HirType-F.Enum (enum_path id)) s o h k
  value_made ls (value.Struct id) s o h k = struct_made ls id owner.Own s o h k
  value_made ls (value.Empty id) s o h k = struct_made ls id owner.Own s o h k
  value_made ls (value.EmptyOut id) s o h k = tt
  value_made ls (value.OutStruct id) s o h k = tt

  slice_made : (x : Slice P C Borrow I StructPath T) (s : Skeleton TypeId) (o : Bool) → carrier_of (carries x) ≡ s → false ≡ o → Has s o (slice_type x)
  slice_made x s o h k = rolled (HirType-F.Slice x) s o h k

  flat_is : (f : FlatSlice) → carries (flat_form f) ≡ flat_carries f
  flat_is (flat.Str l e) = refl
  flat_is (flat.OwnedStr e) = refl
  flat_is (flat.Primitives b p) = refl
  flat_is (flat.OwnedPrimitives p) = refl

  flat_made : (f : FlatSlice) (s : Skeleton TypeId) (o : Bool) → carrier_of (flat_carries f) ≡ s → false ≡ o → Has s o (slice_type (flat_form f))
  flat_made f s o h k = slice_made (flat_form f) s o (ap carrier_of (flat_is f) ∙ h) k

  -- ---- elements

  abbrev Carries : List (MaybeStatic ℕ) → Slice P C Borrow I StructPath T → Type 0
  Carries all x = carries x ≡ all

  elements_made : (b : Option Borrow) (ls : Generics) (carried : List (MaybeStatic ℕ)) (e : Element) → ElementHas carried ls e
      → IfSome (elements_form {P = P} {C = C} {I = I} (coming_in implementing) ls (owner_of b) e) (Carries (own_lifetime b ++ carried))
  elements_made b ls carried (element.Value (value.Primitive p)) h = tt
  elements_made b ls carried (element.Value (value.Enum id)) h = ap (λ own. own ++ []) (held_lifetime b) ∙ ap (λ more. own_lifetime b ++ more) h
  elements_made b ls carried (element.Value (value.Struct id)) h = ap (λ own. own ++ ls) (held_lifetime b) ∙ ap (λ more. own_lifetime b ++ more) h
  elements_made b ls carried (element.Value (value.Empty id)) h = ap (λ own. own ++ ls) (held_lifetime b) ∙ ap (λ more. own_lifetime b ++ more) h
  elements_made b ls carried (element.Value (value.EmptyOut id)) h = tt
  elements_made b ls carried (element.Value (value.OutStruct id)) h = tt
  elements_made b ls carried element.Opaque h = tt
  elements_made b ls carried (element.OpaqueReference r id mark) h = ap (λ own. own ++ r.lifetime ∷ ls) (held_lifetime b) ∙ ap (λ more. own_lifetime b ++ more) h
  elements_made b ls carried (element.OpaqueOption r id d) h = ap (λ own. own ++ r.lifetime ∷ ls) (held_lifetime b) ∙ ap (λ more. own_lifetime b ++ more) h
  elements_made b ls carried element.Other h = tt

  -- ---- shapes

  pub shape_made : (s : Skeleton TypeId) (o : Bool) (ls : Generics) (x : Shape) → ShapeHas s o ls x → IfSome (shape_form {P = P} {C = C} {I = I} (coming_in implementing) ls x) (Has s o)
  shape_made s o ls (shape.Value v) (h, k) = value_made ls v s o h k
  shape_made s o ls shape.Ordering (h, k) = rolled (HirType-F.Primitive primitive.Ordering) s o h k
  shape_made s o ls (shape.ImplTrait id) (h, k) = if_any (Has s o) trait_type (λ path. rolled (HirType-F.ImplTrait path) s o h k) (implementing (trait_path ls id))
  shape_made s o ls (shape.OpaqueReference b id mark) (h, k) = rolled (HirType-F.Opaque (opaque_path ls false id b)) s o h k
  shape_made s o ls (shape.StructReference b id) (h, k) = struct_made ls id (owner.Borrow b) s o h k
  shape_made s o ls (shape.OutStructReference b id) h = tt
  shape_made s o ls (shape.OpaqueBox id) h = tt
  shape_made s o ls (shape.OptionOfReference b id d) (h, k) = rolled (HirType-F.Opaque (opaque_path ls true id b)) s o h k
  shape_made s o ls (shape.OptionOfBox id d) h = tt
  shape_made s o ls (shape.OptionOfValue v d) (h, k) =
      if_made (Has s false) (Has s o) option_type (λ t has. option_made s o k t has.0) (value_form (coming_in implementing) ls v) (value_made ls v s false h refl)
  shape_made s o ls (shape.OptionOfStrings e) (h, k) = option_made s o k (slice_type (slice.Strs e)) (slice_made (slice.Strs e) s false h refl).0
  shape_made s o ls (shape.OptionOfFlat f) (h, k) = option_made s o k (slice_type (flat_form f)) (flat_made f s false h refl).0
  shape_made s o ls (shape.Flat f) (h, k) = flat_made f s o h k
  shape_made s o ls (shape.Strings e) (h, k) = slice_made (slice.Strs e) s o h k
  shape_made s o ls (shape.Slice b e) (h, k) =
      if_made (Carries (own_lifetime b ++ h.carried)) (Has s o) slice_type (λ x is. slice_made x s o (ap carrier_of is ∙ h.whole) k)
      (elements_form (coming_in implementing) ls (owner_of b) e) (elements_made b ls h.carried e h.elements)
  shape_made s o ls _ h = tt
