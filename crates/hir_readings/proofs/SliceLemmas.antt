-- What a type stands for is a slice, or an option of one, exactly where the numbered type is.
use Rattle.std.proofs.Common.{◌≡◌, Bool, true, false, Option, Some, None, refl, ◌∙◌}
use Rattle.std.specs.Prelude.{⊤, IfSome, option_map}
use Rattle.bridge_decl.specs.declared.types.StdlibOrDiplomat.{StdlibOrDiplomat}
use Rattle.bridge_order.specs.Catalog.{entry_at}
use Rattle.bridge_order.specs.declared.catalog.Catalog.{Catalog}
use Rattle.bridge_order.specs.declared.catalog.Entry.{Entry}
use Rattle.bridge_order.specs.declared.catalog.Entry.TheVariants as entry
use Rattle.bridge_rules.specs.Shapes.{box_shape, item_shape, lent_for, level_option, named_entry, option_of_box, option_of_item, option_of_reference, reference_shape, shape_of, shape_of_level}
use Rattle.bridge_rules.specs.declared.shape.Shape.{Shape}
use Rattle.bridge_rules.specs.declared.shape.Shape.TheVariants as shape
use Rattle.bridge_rules.specs.declared.shape.Value.{Value}
use Rattle.bridge_rules.specs.declared.shape.Value.TheVariants as value
use Rattle.hir_form.specs.Forms.{Generics, callback_type, elements_form, enum_path, flat_form, opaque_path, option_type, primitive_form, shape_form, slice_type, struct_path, trait_path, trait_type, value_form}
use Rattle.hir_form.specs.Makers.{coming_in}
use Rattle.hir_form.specs.ParamForms.{callback_form, input_form, level_param_form, param_form}
use Rattle.hir_form.specs.TypeForms.{generics_in}
use Rattle.hir_ids.specs.Owners.{owner_of}
use Rattle.hir_ids.specs.declared.owners.Borrow.{Borrow}
use Rattle.hir_ids.specs.declared.owners.MaybeOwn.TheVariants as owner
use Rattle.hir_ids.specs.declared.primitives.PrimitiveType.TheVariants as primitive
use Rattle.hir_number.specs.declared.numbered.NumberedType.{NumberedType, out-NumberedType}
use Rattle.hir_number.specs.declared.numbered.NumberedType.TheOpen.{NumberedType-F}
use Rattle.hir_skeleton.specs.Inputs.{is_slice_type, is_slice_type_step}
use Rattle.hir_types.specs.declared.paths.StructPath.{StructPath}
use Rattle.hir_types.specs.declared.paths.TraitPath.{TraitPath}
use Rattle.hir_types.specs.declared.slices.Slice.{Slice}
use Rattle.hir_types.specs.declared.slices.Slice.TheVariants as slice
use Rattle.hir_types.specs.declared.types.HirType.{HirType, map-HirType, roll-HirType}
use Rattle.hir_types.specs.declared.types.HirType.TheOpen.{HirType-F}
use Rattle.hir_types.specs.declared.types.HirType.TheFolds.{fold-roll-HirType}
use Rattle.hir_readings.specs.NumberedSkeletons.{level_inside_slice, level_slice, stands_for_slice}

-- what a shape stands for is a slice, or isn't; nothing is said of those that stand for nothing
abbrev pub SliceIs : Bool → Shape → Type 0
SliceIs b (shape.Value v) = false ≡ b
SliceIs b shape.Ordering = false ≡ b
SliceIs b (shape.ImplTrait id) = false ≡ b
SliceIs b (shape.OpaqueReference r id mark) = false ≡ b
SliceIs b (shape.StructReference r id) = false ≡ b
SliceIs b (shape.OptionOfReference r id d) = false ≡ b
SliceIs b (shape.OptionOfValue v d) = false ≡ b
SliceIs b (shape.OptionOfStrings e) = true ≡ b
SliceIs b (shape.OptionOfFlat f) = true ≡ b
SliceIs b (shape.Flat f) = true ≡ b
SliceIs b (shape.Strings e) = true ≡ b
SliceIs b (shape.Slice r e) = true ≡ b
SliceIs b _ = ⊤

-- ---- what is made

module _ (P C I : Type 0) {T : Type 0} (implementing : TraitPath → Option T) where
  abbrev Made : Type 0
  Made = HirType P C Borrow I StructPath T

  -- it is a slice, or isn't
  abbrev Is : Bool → Made → Type 0
  Is b t = is_slice_type t ≡ b

  pub slice_rolled : (x : HirType-F P C Borrow I StructPath T Made) (b : Bool) → is_slice_type_step (map-HirType _ _ _ _ _ _ _ _ is_slice_type x) ≡ b → Is b (roll-HirType _ _ _ _ _ _ x)
  slice_rolled x b h = fold-roll-HirType _ _ _ _ _ _ Bool is_slice_type_step x ∙ h

  made_any : {A : Type 0} (b : Bool) (f : A → Made) → ((a : A) → Is b (f a)) → (x : Option A) → IfSome (option_map f x) (Is b)
  made_any b f makes (Some a) = makes a
  made_any b f makes None = tt

  made_of : {A : Type 0} (b : Bool) (Q : A → Type 0) (f : A → Made) → ((a : A) → Q a → Is b (f a)) → (x : Option A) → IfSome x Q → IfSome (option_map f x) (Is b)
  made_of b Q f makes (Some a) h = makes a h
  made_of b Q f makes None h = tt

  slice_option : (b : Bool) (t : Made) → Is b t → Is b (option_type t)
  slice_option b t h = slice_rolled (HirType-F.DiplomatOption t) b h

  slice_value : (ls : Generics) (v : Value) (b : Bool) → false ≡ b → IfSome (value_form {P = P} {C = C} {I = I} (coming_in implementing) ls v) (Is b)
  slice_value ls (value.Primitive p) b h = slice_rolled (HirType-F.Primitive (primitive_form p)) b h
  slice_value ls (value.Enum id) b h = slice_rolled (HirType-F.Enum (enum_path id)) b h
  slice_value ls (value.Struct id) b h = slice_rolled (HirType-F.Struct (struct_path ls id owner.Own)) b h
  slice_value ls (value.Empty id) b h = slice_rolled (HirType-F.Struct (struct_path ls id owner.Own)) b h
  slice_value ls (value.EmptyOut id) b h = tt
  slice_value ls (value.OutStruct id) b h = tt

  slice_is : (x : Slice P C Borrow I StructPath T) (b : Bool) → true ≡ b → Is b (slice_type x)
  slice_is x b h = slice_rolled (HirType-F.Slice x) b h

  pub slice_shaped : (b : Bool) (ls : Generics) (x : Shape) → SliceIs b x → IfSome (shape_form {P = P} {C = C} {I = I} (coming_in implementing) ls x) (Is b)
  slice_shaped b ls (shape.Value v) h = slice_value ls v b h
  slice_shaped b ls shape.Ordering h = slice_rolled (HirType-F.Primitive primitive.Ordering) b h
  slice_shaped b ls (shape.ImplTrait id) h = made_any b trait_type (λ path. slice_rolled (HirType-F.ImplTrait path) b h) (implementing (trait_path ls id))
  slice_shaped b ls (shape.OpaqueReference r id mark) h = slice_rolled (HirType-F.Opaque (opaque_path ls false id r)) b h
  slice_shaped b ls (shape.StructReference r id) h = slice_rolled (HirType-F.Struct (struct_path ls id (owner.Borrow r))) b h
  slice_shaped b ls (shape.OutStructReference r id) h = tt
  slice_shaped b ls (shape.OpaqueBox id) h = tt
  slice_shaped b ls (shape.OptionOfReference r id d) h = slice_rolled (HirType-F.Opaque (opaque_path ls true id r)) b h
  slice_shaped b ls (shape.OptionOfBox id d) h = tt
  slice_shaped b ls (shape.OptionOfValue v d) h = made_of b (Is b) option_type (slice_option b) (value_form (coming_in implementing) ls v) (slice_value ls v b h)
  slice_shaped b ls (shape.OptionOfStrings e) h = slice_option b (slice_type (slice.Strs e)) (slice_is (slice.Strs e) b h)
  slice_shaped b ls (shape.OptionOfFlat f) h = slice_option b (slice_type (flat_form f)) (slice_is (flat_form f) b h)
  slice_shaped b ls (shape.Flat f) h = slice_is (flat_form f) b h
  slice_shaped b ls (shape.Strings e) h = slice_is (slice.Strs e) b h
  slice_shaped b ls (shape.Slice r e) h = made_any b slice_type (λ x. slice_is x b h) (elements_form (coming_in implementing) ls (owner_of r) e)
  slice_shaped b ls _ h = tt

-- ---- shapes

item_no_slice : (e : Entry) → SliceIs false (item_shape e)
item_no_slice (entry.Struct id b) = refl
item_no_slice (entry.OutStruct id b) = refl
item_no_slice (entry.Opaque id mark) = tt
item_no_slice (entry.Enum id) = refl
item_no_slice (entry.Trait id) = refl
item_no_slice (entry.Function id) = refl

option_item_no_slice : (e : Entry) (d : StdlibOrDiplomat) → SliceIs false (option_of_item e d)
option_item_no_slice (entry.Struct id b) d = refl
option_item_no_slice (entry.OutStruct id b) d = refl
option_item_no_slice (entry.Opaque id mark) d = tt
option_item_no_slice (entry.Enum id) d = refl
option_item_no_slice (entry.Trait id) d = tt
option_item_no_slice (entry.Function id) d = refl

lent_no_slice : (r : Borrow) (e : Option Entry) → SliceIs false (reference_shape r e)
lent_no_slice r None = tt
lent_no_slice r (Some (entry.Struct id b)) = refl
lent_no_slice r (Some (entry.OutStruct id b)) = tt
lent_no_slice r (Some (entry.Opaque id mark)) = refl
lent_no_slice r (Some (entry.Enum id)) = tt
lent_no_slice r (Some (entry.Trait id)) = tt
lent_no_slice r (Some (entry.Function id)) = tt

option_lent_no_slice : (r : Borrow) (e : Option Entry) (d : StdlibOrDiplomat) → SliceIs false (option_of_reference r e d)
option_lent_no_slice r None d = tt
option_lent_no_slice r (Some (entry.Struct id b)) d = tt
option_lent_no_slice r (Some (entry.OutStruct id b)) d = tt
option_lent_no_slice r (Some (entry.Opaque id mark)) d = refl
option_lent_no_slice r (Some (entry.Enum id)) d = tt
option_lent_no_slice r (Some (entry.Trait id)) d = tt
option_lent_no_slice r (Some (entry.Function id)) d = tt

box_no_slice : (e : Option Entry) → SliceIs false (box_shape e)
box_no_slice None = tt
box_no_slice (Some (entry.Struct id b)) = tt
box_no_slice (Some (entry.OutStruct id b)) = tt
box_no_slice (Some (entry.Opaque id mark)) = tt
box_no_slice (Some (entry.Enum id)) = tt
box_no_slice (Some (entry.Trait id)) = tt
box_no_slice (Some (entry.Function id)) = tt

option_box_no_slice : (e : Option Entry) (d : StdlibOrDiplomat) → SliceIs false (option_of_box e d)
option_box_no_slice None d = tt
option_box_no_slice (Some (entry.Struct id b)) d = tt
option_box_no_slice (Some (entry.OutStruct id b)) d = tt
option_box_no_slice (Some (entry.Opaque id mark)) d = tt
option_box_no_slice (Some (entry.Enum id)) d = tt
option_box_no_slice (Some (entry.Trait id)) d = tt
option_box_no_slice (Some (entry.Function id)) d = tt

-- ---- types, level by level

module _ (catalog : Catalog) where
  slice_in_option : (d : StdlibOrDiplomat) (x : NumberedType-F NumberedType) → SliceIs (level_inside_slice x) (level_option catalog d x)
  slice_in_option d (NumberedType-F.Primitive p) = refl
  slice_in_option d (NumberedType-F.Named t) = option_item_no_slice (entry_at catalog t.place) d
  slice_in_option d (NumberedType-F.SelfType t) = option_item_no_slice (entry_at catalog t.place) d
  slice_in_option d (NumberedType-F.Reference l m t) = option_lent_no_slice (lent_for l m) (named_entry catalog t) d
  slice_in_option d (NumberedType-F.Box t) = option_box_no_slice (named_entry catalog t) d
  slice_in_option d (NumberedType-F.StrSlice e c) = refl
  slice_in_option d (NumberedType-F.StrReference l e c) = refl
  slice_in_option d (NumberedType-F.PrimitiveSlice b p c) = refl
  slice_in_option d _ = tt

  slice_level : (x : NumberedType-F NumberedType) → SliceIs (level_slice x) (shape_of_level catalog x)
  slice_level (NumberedType-F.Primitive p) = refl
  slice_level NumberedType-F.Ordering = refl
  slice_level (NumberedType-F.Named t) = item_no_slice (entry_at catalog t.place)
  slice_level (NumberedType-F.SelfType t) = item_no_slice (entry_at catalog t.place)
  slice_level (NumberedType-F.ImplTrait t) = refl
  slice_level (NumberedType-F.Reference l m t) = lent_no_slice (lent_for l m) (named_entry catalog t)
  slice_level (NumberedType-F.Box t) = box_no_slice (named_entry catalog t)
  slice_level (NumberedType-F.Option t d) = slice_in_option d (out-NumberedType t)
  slice_level (NumberedType-F.Result t e d) = tt
  slice_level (NumberedType-F.Write w) = tt
  slice_level (NumberedType-F.StrReference l e d) = refl
  slice_level (NumberedType-F.StrSlice e d) = refl
  slice_level (NumberedType-F.PrimitiveSlice b p d) = refl
  slice_level (NumberedType-F.CustomTypeSlice b t d) = refl
  slice_level (NumberedType-F.Function ts t m) = tt
  slice_level NumberedType-F.Unit = tt

  -- ---- parameters

  param_slice_level : (ty : NumberedType) (x : NumberedType-F NumberedType) → IfSome (input_form catalog ty) (λ t. is_slice_type t ≡ level_slice x)
      → IfSome (level_param_form catalog ty x) (λ t. is_slice_type t ≡ level_slice x)
  param_slice_level ty (NumberedType-F.Function inputs output m) h =
      made_any _ _ _ (λ path. Some path) false callback_type (λ c. slice_rolled _ _ _ (λ path. Some path) (HirType-F.Callback c) false refl) (callback_form catalog inputs output)
  param_slice_level ty _ h = h

  pub param_slice : (ty : NumberedType) → IfSome (param_form catalog ty) (λ t. is_slice_type t ≡ stands_for_slice ty)
  param_slice ty =
      param_slice_level ty (out-NumberedType ty)
      (slice_shaped _ _ _ (λ path. Some path) (stands_for_slice ty) (generics_in ty) (shape_of catalog ty) (slice_level (out-NumberedType ty)))
