-- A lowered type contains the structs that its numbered type holds.
use Rattle.std.proofs.Common.{◌≡◌, ℕ, List, [], ◌∷◌, Bool, true, false, Option, Some, None, refl, sym, ap, subst, ◌∙◌}
use Rattle.std.specs.Prelude.{⊤, IfSome, option_map}
use Rattle.bridge_decl.specs.declared.types.StdlibOrDiplomat.{StdlibOrDiplomat}
use Rattle.bridge_order.specs.Catalog.{entry_at}
use Rattle.bridge_order.specs.declared.catalog.Catalog.{Catalog}
use Rattle.bridge_order.specs.declared.catalog.Entry.{Entry}
use Rattle.bridge_order.specs.declared.catalog.Entry.TheVariants as entry
use Rattle.bridge_rules.specs.Shapes.{box_shape, item_shape, lent_for, level_entry, level_option, named_entry, option_of_box, option_of_item, option_of_reference, out_struct_value, reference_shape, shape_of, shape_of_level, struct_value}
use Rattle.bridge_rules.specs.declared.shape.Shape.{Shape}
use Rattle.bridge_rules.specs.declared.shape.Shape.TheVariants as shape
use Rattle.bridge_rules.specs.declared.shape.Value.{Value}
use Rattle.bridge_rules.specs.declared.shape.Value.TheVariants as value
use Rattle.hir_form.specs.Forms.{Generics, boxed_form, elements_form, enum_path, flat_form, opaque_path, opaque_type, option_type, primitive_form, shape_form, slice_type, struct_form, struct_path, struct_type, trait_path, trait_type, value_form}
use Rattle.hir_form.specs.Makers.{Makers, of_fields, of_outputs}
use Rattle.hir_form.specs.TypeForms.{generics_in, type_form}
use Rattle.hir_ids.specs.Owners.{owner_of}
use Rattle.hir_ids.specs.declared.ids.TypeId.{TypeId}
use Rattle.hir_ids.specs.declared.ids.TypeId.TheVariants as type
use Rattle.hir_ids.specs.declared.owners.Borrow.{Borrow}
use Rattle.hir_ids.specs.declared.owners.MaybeOwn.{MaybeOwn}
use Rattle.hir_ids.specs.declared.owners.MaybeOwn.TheVariants as owner
use Rattle.hir_ids.specs.declared.primitives.PrimitiveType.TheVariants as primitive
use Rattle.hir_mentions.specs.Containing.{contained_in_type, contained_step}
use Rattle.hir_number.specs.declared.numbered.NumberedType.{NumberedType, map-NumberedType, out-NumberedType}
use Rattle.hir_number.specs.declared.numbered.NumberedType.TheOpen.{NumberedType-F}
use Rattle.hir_number.specs.declared.numbered.NumberedType.TheFolds.{fold_out-NumberedType}
use Rattle.hir_types.specs.Paths.{returnable_id}
use Rattle.hir_types.specs.declared.paths.StructPath.{StructPath}
use Rattle.hir_types.specs.declared.slices.Slice.{Slice}
use Rattle.hir_types.specs.declared.slices.Slice.TheVariants as slice
use Rattle.hir_types.specs.declared.types.HirType.{HirType, map-HirType, roll-HirType}
use Rattle.hir_types.specs.declared.types.HirType.TheOpen.{HirType-F}
use Rattle.hir_types.specs.declared.types.HirType.TheFolds.{fold-roll-HirType}
use Rattle.hir_nesting_rules.proofs.HeldIds.{entry_ids, ids_held, level_ids}

-- ---- shapes

abbrev value_ids : Value → List TypeId
value_ids (value.Primitive p) = []
value_ids (value.Enum id) = []
value_ids (value.Struct id) = type.Struct id ∷ []
value_ids (value.Empty id) = type.Struct id ∷ []
value_ids (value.EmptyOut id) = type.OutStruct id ∷ []
value_ids (value.OutStruct id) = type.OutStruct id ∷ []

-- what a shape stands for contains these; nothing is said of one that stands for nothing but hides what it has inside
abbrev HoldsAs : List TypeId → Shape → Type 0
HoldsAs ids (shape.Value v) = value_ids v ≡ ids
HoldsAs ids (shape.StructReference b id) = type.Struct id ∷ [] ≡ ids
HoldsAs ids (shape.OutStructReference b id) = type.OutStruct id ∷ [] ≡ ids
HoldsAs ids shape.OtherReference = ⊤
HoldsAs ids shape.OptionOfPointer = ⊤
HoldsAs ids (shape.OptionOfValue v d) = value_ids v ≡ ids
HoldsAs ids shape.OtherOption = ⊤
HoldsAs ids _ = [] ≡ ids

-- ---- what shapes stand for

if_made : {A B : Type 0} (Q : A → Type 0) (P : B → Type 0) (f : A → B) → ((a : A) → Q a → P (f a)) → (x : Option A) → IfSome x Q → IfSome (option_map f x) P
if_made Q P f makes (Some a) h = makes a h
if_made Q P f makes None h = tt

-- there is always this
if_any : {A B : Type 0} (P : B → Type 0) (f : A → B) → ((a : A) → P (f a)) → (x : Option A) → IfSome (option_map f x) P
if_any P f makes (Some a) = makes a
if_any P f makes None = tt

-- the id of a struct, which may be one that only comes out
abbrev pub struct_id_of : Bool → ℕ → TypeId
struct_id_of true id = type.OutStruct id
struct_id_of false id = type.Struct id

-- what a position makes of the path of a struct names that struct
abbrev pub NamesStruct : {O S T : Type 0} → Makers O S T → (S → TypeId) → Type 0
NamesStruct m struct = (is_out : Bool) (path : StructPath) → IfSome (m.named is_out path) (λ s. struct s ≡ struct_id_of is_out path.tcx_id)

module _ (P C I : Type 0) {O S T : Type 0} (m : Makers O S T) (struct : S → TypeId) (names : NamesStruct m struct) where
  abbrev in_type : HirType P C O I S T → List TypeId
  in_type = contained_in_type struct

  abbrev Contains-ids : List TypeId → HirType P C O I S T → Type 0
  Contains-ids ids t = in_type t ≡ ids

  made : (x : HirType-F P C O I S T (HirType P C O I S T)) (ids : List TypeId) → contained_step struct (map-HirType _ _ _ _ _ _ _ _ in_type x) ≡ ids → in_type (roll-HirType _ _ _ _ _ _ x) ≡ ids
  made x ids h = fold-roll-HirType _ _ _ _ _ _ (List TypeId) (contained_step struct) x ∙ h

  option_made : (ids : List TypeId) (t : HirType P C O I S T) → in_type t ≡ ids → in_type (option_type t) ≡ ids
  option_made ids t h = made (HirType-F.DiplomatOption t) ids h

  slice_made : (ids : List TypeId) (s : Slice P C O I S T) → [] ≡ ids → in_type (slice_type s) ≡ ids
  slice_made ids s h = made (HirType-F.Slice s) ids h

  struct_made : (ls : Generics) (is_out : Bool) (id : ℕ) (held : MaybeOwn) (ids : List TypeId) → struct_id_of is_out id ∷ [] ≡ ids → IfSome (struct_form {P = P} {C = C} {I = I} m ls is_out id held) (Contains-ids ids)
  struct_made ls is_out id held ids h =
      if_made (λ s. struct s ≡ struct_id_of is_out id) (Contains-ids ids) struct_type (λ s is. made (HirType-F.Struct s) ids (ap (λ i. i ∷ []) is ∙ h)) (m.named is_out (struct_path ls id held)) (names is_out (struct_path ls id held))

  value_made : (ls : Generics) (v : Value) (ids : List TypeId) → value_ids v ≡ ids → IfSome (value_form {P = P} {C = C} {I = I} m ls v) (Contains-ids ids)
  value_made ls (value.Primitive p) ids h = made (HirType-F.Primitive (primitive_form p)) ids h
  value_made ls (value.Enum id) ids h = made (HirType-F.Enum (enum_path id)) ids h
  value_made ls (value.Struct id) ids h = struct_made ls false id owner.Own ids h
  value_made ls (value.Empty id) ids h = struct_made ls false id owner.Own ids h
  value_made ls (value.EmptyOut id) ids h = struct_made ls true id owner.Own ids h
  value_made ls (value.OutStruct id) ids h = struct_made ls true id owner.Own ids h

  boxed_made : (ls : Generics) (is_optional : Bool) (id : ℕ) (ids : List TypeId) → [] ≡ ids → IfSome (boxed_form {P = P} {C = C} {I = I} m ls is_optional id) (Contains-ids ids)
  boxed_made ls is_optional id ids h =
      if_any (Contains-ids ids) (λ held. opaque_type (opaque_path ls is_optional id held)) (λ held. made (HirType-F.Opaque (opaque_path ls is_optional id held)) ids h) m.boxed

  shape_made : (ids : List TypeId) (ls : Generics) (s : Shape) → HoldsAs ids s → IfSome (shape_form {P = P} {C = C} {I = I} m ls s) (Contains-ids ids)
  shape_made ids ls (shape.Value v) h = value_made ls v ids h
  shape_made ids ls shape.Ordering h = made (HirType-F.Primitive primitive.Ordering) ids h
  shape_made ids ls (shape.ImplTrait id) h =
      if_any (Contains-ids ids) trait_type (λ path. made (HirType-F.ImplTrait path) ids h) (m.implementing (trait_path ls id))
  shape_made ids ls (shape.OpaqueReference b id mark) h = made (HirType-F.Opaque (opaque_path ls false id (m.borrowed b))) ids h
  shape_made ids ls (shape.StructReference b id) h = struct_made ls false id (owner.Borrow b) ids h
  shape_made ids ls (shape.OutStructReference b id) h = struct_made ls true id (owner.Borrow b) ids h
  shape_made ids ls (shape.OpaqueBox id) h = boxed_made ls false id ids h
  shape_made ids ls (shape.OptionOfReference b id d) h = made (HirType-F.Opaque (opaque_path ls true id (m.borrowed b))) ids h
  shape_made ids ls (shape.OptionOfBox id d) h = boxed_made ls true id ids h
  shape_made ids ls (shape.OptionOfValue v d) h = if_made (Contains-ids ids) (Contains-ids ids) option_type (option_made ids) (value_form m ls v) (value_made ls v ids h)
  shape_made ids ls (shape.OptionOfStrings e) h = option_made ids (slice_type (slice.Strs e)) (slice_made ids (slice.Strs e) h)
  shape_made ids ls (shape.OptionOfFlat f) h = option_made ids (slice_type (flat_form f)) (slice_made ids (flat_form f) h)
  shape_made ids ls (shape.Flat f) h = slice_made ids (flat_form f) h
  shape_made ids ls (shape.Strings e) h = slice_made ids (slice.Strs e) h
  shape_made ids ls (shape.Slice b e) h = if_any (Contains-ids ids) slice_type (λ s. slice_made ids s h) (elements_form m ls (owner_of b) e)
  shape_made ids ls _ h = tt

-- ---- shapes of types

struct_value_holds : (id : ℕ) (b : Bool) → value_ids (struct_value id b) ≡ type.Struct id ∷ []
struct_value_holds id true = refl
struct_value_holds id false = refl

out_value_holds : (id : ℕ) (b : Bool) → value_ids (out_struct_value id b) ≡ type.OutStruct id ∷ []
out_value_holds id true = refl
out_value_holds id false = refl

item_holds : (e : Entry) → HoldsAs (entry_ids e) (item_shape e)
item_holds (entry.Struct id b) = struct_value_holds id b
item_holds (entry.OutStruct id b) = out_value_holds id b
item_holds (entry.Opaque id mark) = refl
item_holds (entry.Enum id) = refl
item_holds (entry.Trait id) = refl
item_holds (entry.Function id) = refl

option_item_holds : (e : Entry) (d : StdlibOrDiplomat) → HoldsAs (entry_ids e) (option_of_item e d)
option_item_holds (entry.Struct id b) d = struct_value_holds id b
option_item_holds (entry.OutStruct id b) d = out_value_holds id b
option_item_holds (entry.Opaque id mark) d = refl
option_item_holds (entry.Enum id) d = refl
option_item_holds (entry.Trait id) d = tt
option_item_holds (entry.Function id) d = refl

-- these are held by what is named, where something is
abbrev HeldBy : List TypeId → Option Entry → Type 0
HeldBy ids None = ⊤
HeldBy ids (Some e) = ids ≡ entry_ids e

reference_holds : (ids : List TypeId) (b : Borrow) (e : Option Entry) → HeldBy ids e → HoldsAs ids (reference_shape b e)
reference_holds ids b (Some (entry.Opaque id mark)) h = sym h
reference_holds ids b (Some (entry.Struct id has)) h = sym h
reference_holds ids b (Some (entry.OutStruct id has)) h = sym h
reference_holds ids b _ h = tt

option_reference_holds : (ids : List TypeId) (b : Borrow) (e : Option Entry) (d : StdlibOrDiplomat) → HeldBy ids e → HoldsAs ids (option_of_reference b e d)
option_reference_holds ids b (Some (entry.Opaque id mark)) d h = sym h
option_reference_holds ids b _ d h = tt

box_holds : (e : Option Entry) → HoldsAs [] (box_shape e)
box_holds (Some (entry.Opaque id mark)) = refl
box_holds _ = refl

option_box_holds : (e : Option Entry) (d : StdlibOrDiplomat) → HoldsAs [] (option_of_box e d)
option_box_holds (Some (entry.Opaque id mark)) d = refl
option_box_holds _ d = tt

module _ (catalog : Catalog) where
  abbrev inside : NumberedType-F NumberedType → List TypeId
  inside x = level_ids catalog (map-NumberedType NumberedType (List TypeId) (ids_held catalog) x)

  ids_of_level : (ty : NumberedType) → ids_held catalog ty ≡ inside (out-NumberedType ty)
  ids_of_level ty = fold_out-NumberedType (List TypeId) (level_ids catalog) ty

  entry_level : (x : NumberedType-F NumberedType) → HeldBy (inside x) (level_entry catalog x)
  entry_level (NumberedType-F.Named t) = refl
  entry_level (NumberedType-F.SelfType t) = refl
  entry_level _ = tt

  entry_holds : (ty : NumberedType) → HeldBy (ids_held catalog ty) (named_entry catalog ty)
  entry_holds ty = subst (λ ids. HeldBy ids (named_entry catalog ty)) (sym (ids_of_level ty)) (entry_level (out-NumberedType ty))

  option_level : (d : StdlibOrDiplomat) (x : NumberedType-F NumberedType) → HoldsAs (inside x) (level_option catalog d x)
  option_level d (NumberedType-F.Primitive p) = refl
  option_level d (NumberedType-F.Named t) = option_item_holds (entry_at catalog t.place) d
  option_level d (NumberedType-F.SelfType t) = option_item_holds (entry_at catalog t.place) d
  option_level d (NumberedType-F.Reference l m t) = option_reference_holds (ids_held catalog t) (lent_for l m) (named_entry catalog t) d (entry_holds t)
  option_level d (NumberedType-F.Box t) = option_box_holds (named_entry catalog t) d
  option_level d (NumberedType-F.StrSlice e c) = refl
  option_level d (NumberedType-F.StrReference l e c) = refl
  option_level d (NumberedType-F.PrimitiveSlice b p c) = refl
  option_level d _ = tt

  shape_level : (x : NumberedType-F NumberedType) → HoldsAs (inside x) (shape_of_level catalog x)
  shape_level (NumberedType-F.Primitive p) = refl
  shape_level NumberedType-F.Ordering = refl
  shape_level (NumberedType-F.Named t) = item_holds (entry_at catalog t.place)
  shape_level (NumberedType-F.SelfType t) = item_holds (entry_at catalog t.place)
  shape_level (NumberedType-F.ImplTrait t) = refl
  shape_level (NumberedType-F.Reference l m t) = reference_holds (ids_held catalog t) (lent_for l m) (named_entry catalog t) (entry_holds t)
  shape_level (NumberedType-F.Box t) = box_holds (named_entry catalog t)
  shape_level (NumberedType-F.Option t d) =
      subst (λ ids. HoldsAs ids (level_option catalog d (out-NumberedType t))) (sym (ids_of_level t)) (option_level d (out-NumberedType t))
  shape_level (NumberedType-F.Result t e d) = refl
  shape_level (NumberedType-F.Write w) = refl
  shape_level (NumberedType-F.StrReference l e d) = refl
  shape_level (NumberedType-F.StrSlice e d) = refl
  shape_level (NumberedType-F.PrimitiveSlice b p d) = refl
  shape_level (NumberedType-F.CustomTypeSlice b t d) = refl
  shape_level (NumberedType-F.Function ts t m) = refl
  shape_level NumberedType-F.Unit = refl

  shape_holds : (ty : NumberedType) → HoldsAs (ids_held catalog ty) (shape_of catalog ty)
  shape_holds ty = subst (λ ids. HoldsAs ids (shape_of catalog ty)) (sym (ids_of_level ty)) (shape_level (out-NumberedType ty))

  -- ---- types

  -- what a type stands for contains what the type holds
  pub type_contains : (P C I : Type 0) {O S T : Type 0} (m : Makers O S T) (struct : S → TypeId) → NamesStruct m struct → (ty : NumberedType)
      → IfSome (type_form {P = P} {C = C} {I = I} m catalog ty) (λ t. contained_in_type struct t ≡ ids_held catalog ty)
  type_contains P C I m struct names ty = shape_made P C I m struct names (ids_held catalog ty) (generics_in ty) (shape_of catalog ty) (shape_holds ty)

-- ---- the positions of fields

pub fields_name : NamesStruct of_fields (λ path. type.Struct path.tcx_id)
fields_name true path = tt
fields_name false path = refl

pub out_fields_name : NamesStruct of_outputs returnable_id
out_fields_name true path = refl
out_fields_name false path = refl
