-- What a return stands for names the lifetimes in its type, by the shapes of types.
use Rattle.std.proofs.Common.{◌≡◌, ℕ, [], ◌++◌, Bool, true, false, Option, Some, None, refl, ap, ◌∙◌}
use Rattle.std.specs.Prelude.{IfSome, option_map}
use Rattle.bridge_decl.specs.declared.types.Mutability.{Mutability}
use Rattle.bridge_decl.specs.declared.types.PrimitiveType.{PrimitiveType}
use Rattle.bridge_decl.specs.declared.types.StdlibOrDiplomat.{StdlibOrDiplomat}
use Rattle.bridge_decl.specs.declared.types.StringEncoding.{StringEncoding}
use Rattle.bridge_decl.specs.declared.types.WriteType.{WriteType}
use Rattle.bridge_order.specs.Catalog.{entry_at}
use Rattle.bridge_order.specs.declared.catalog.Catalog.{Catalog}
use Rattle.bridge_order.specs.declared.catalog.Entry.{Entry}
use Rattle.bridge_order.specs.declared.catalog.Entry.TheVariants as entry
use Rattle.bridge_rules.specs.Shapes.{box_shape, element_item, element_of, element_option, element_reference, item_shape, lent_for, level_element, level_entry, level_option, level_optional_element, named_entry, option_of_box, option_of_item, option_of_reference, out_struct_value, reference_shape, shape_of, shape_of_level, slice_borrow, slice_of_primitives, struct_value, text_slice}
use Rattle.hir_form.specs.Forms.{Generics}
use Rattle.hir_form.specs.Makers.{of_outputs}
use Rattle.hir_form.specs.ParamForms.{method_return_form}
use Rattle.hir_form.specs.ReturnForms.{both_given, error_form, level_error_form, level_option_form, level_return_form, level_success_form, out_form, success_form, unit_form}
use Rattle.hir_form.specs.SignatureForms.{output_form}
use Rattle.hir_form.specs.TypeForms.{generics_in, type_form}
use Rattle.hir_ids.specs.declared.owners.Borrow.{Borrow}
use Rattle.hir_ids.specs.declared.owners.MaybeOwn.{MaybeOwn}
use Rattle.hir_life.specs.declared.maybe_static.MaybeStatic.{MaybeStatic}
use Rattle.hir_number.specs.declared.numbered.NumberedType.{NumberedType, out-NumberedType}
use Rattle.hir_number.specs.declared.numbered.NumberedType.TheOpen.{NumberedType-F}
use Rattle.hir_number.specs.declared.numbered.Target.{Target}
use Rattle.hir_types.specs.Named.{Returned, ReturnedType, lifetimes_in, lifetimes_named}
use Rattle.hir_types.specs.Returns.{type_in}
use Rattle.hir_types.specs.Slices.{at_most_one}
use Rattle.hir_types.specs.declared.callbacks.NoCallback.{NoCallback}
use Rattle.hir_types.specs.declared.paths.NoTraitPath.{NoTraitPath}
use Rattle.hir_types.specs.declared.paths.ReturnableStructPath.{ReturnableStructPath}
use Rattle.hir_types.specs.declared.positions.OutputOnly.{OutputOnly}
use Rattle.hir_types.specs.declared.returns.ReturnType.TheVariants as returned
use Rattle.hir_types.specs.declared.returns.SuccessType.{SuccessType}
use Rattle.hir_types.specs.declared.returns.SuccessType.TheVariants as success
use Rattle.hir_readings.specs.NamedLifetimes.{entry_generics, lent_generics, level_absent, level_behind, level_element_named, level_lifetimes, level_named, returned_level_lifetimes, level_within, returned_lifetimes, value_lifetimes}
use Rattle.hir_readings.specs.NumberedSkeletons.{borrow_lifetime}
use Rattle.hir_readings.proofs.FormedLemmas.{flat_carries}
use Rattle.hir_readings.proofs.NamedLemmas.{ElementNames, Lifetimes, Names, ShapeNames, SliceNames, ValueNames, none_more, shape_made}
use Rattle.hir_readings.proofs.ShapedLemmas.{at_type, level_generics, own_is_borrow}

-- ---- entries

struct_names : (ls : Generics) (id : ℕ) (b : Bool) → ValueNames ls ls (struct_value id b)
struct_names ls id true = refl
struct_names ls id false = refl

out_names : (ls : Generics) (id : ℕ) (b : Bool) → ValueNames ls ls (out_struct_value id b)
out_names ls id true = refl
out_names ls id false = refl

item_names : (e : Entry) (t : Target) → ShapeNames (entry_generics e t) t.lifetimes (item_shape e)
item_names (entry.Struct id b) t = struct_names t.lifetimes id b
item_names (entry.OutStruct id b) t = out_names t.lifetimes id b
item_names (entry.Opaque id mark) t = tt
item_names (entry.Enum id) t = refl
item_names (entry.Trait id) t = tt
item_names (entry.Function id) t = refl

option_item_names : (e : Entry) (t : Target) (d : StdlibOrDiplomat) → ShapeNames (entry_generics e t) t.lifetimes (option_of_item e d)
option_item_names (entry.Struct id b) t d = struct_names t.lifetimes id b
option_item_names (entry.OutStruct id b) t d = out_names t.lifetimes id b
option_item_names (entry.Opaque id mark) t d = tt
option_item_names (entry.Enum id) t d = refl
option_item_names (entry.Trait id) t d = tt
option_item_names (entry.Function id) t d = refl

lent_names : (b : Borrow) (e : Entry) (t : Target) → ShapeNames (lent_generics b.lifetime e t) t.lifetimes (reference_shape b (Some e))
lent_names b (entry.Struct id has) t = refl
lent_names b (entry.OutStruct id has) t = refl
lent_names b (entry.Opaque id mark) t = refl
lent_names b (entry.Enum id) t = tt
lent_names b (entry.Trait id) t = tt
lent_names b (entry.Function id) t = tt

option_lent_names : (b : Borrow) (e : Entry) (t : Target) (d : StdlibOrDiplomat) → ShapeNames (lent_generics b.lifetime e t) t.lifetimes (option_of_reference b (Some e) d)
option_lent_names b (entry.Struct id has) t d = tt
option_lent_names b (entry.OutStruct id has) t d = tt
option_lent_names b (entry.Opaque id mark) t d = refl
option_lent_names b (entry.Enum id) t d = tt
option_lent_names b (entry.Trait id) t d = tt
option_lent_names b (entry.Function id) t d = tt

box_names : (e : Entry) (t : Target) → ShapeNames (entry_generics e t) t.lifetimes (box_shape (Some e))
box_names (entry.Struct id has) t = tt
box_names (entry.OutStruct id has) t = tt
box_names (entry.Opaque id mark) t = refl
box_names (entry.Enum id) t = tt
box_names (entry.Trait id) t = tt
box_names (entry.Function id) t = tt

option_box_names : (e : Entry) (t : Target) (d : StdlibOrDiplomat) → ShapeNames (entry_generics e t) t.lifetimes (option_of_box (Some e) d)
option_box_names (entry.Struct id has) t d = tt
option_box_names (entry.OutStruct id has) t d = tt
option_box_names (entry.Opaque id mark) t d = refl
option_box_names (entry.Enum id) t d = tt
option_box_names (entry.Trait id) t d = tt
option_box_names (entry.Function id) t d = tt

item_element_names : (e : Entry) (t : Target) → ElementNames (entry_generics e t) t.lifetimes (element_item e)
item_element_names (entry.Struct id b) t = struct_names t.lifetimes id b
item_element_names (entry.OutStruct id b) t = out_names t.lifetimes id b
item_element_names (entry.Opaque id mark) t = tt
item_element_names (entry.Enum id) t = refl
item_element_names (entry.Trait id) t = tt
item_element_names (entry.Function id) t = refl

lent_element_names : (b : Borrow) (e : Entry) (t : Target) → ElementNames (lent_generics b.lifetime e t) t.lifetimes (element_reference b (Some e))
lent_element_names b (entry.Struct id has) t = tt
lent_element_names b (entry.OutStruct id has) t = tt
lent_element_names b (entry.Opaque id mark) t = refl
lent_element_names b (entry.Enum id) t = tt
lent_element_names b (entry.Trait id) t = tt
lent_element_names b (entry.Function id) t = tt

absent_names : (b : Borrow) (e : Entry) (t : Target) (d : StdlibOrDiplomat) → ElementNames (lent_generics b.lifetime e t) t.lifetimes (element_option b (Some e) d)
absent_names b (entry.Struct id has) t d = tt
absent_names b (entry.OutStruct id has) t d = tt
absent_names b (entry.Opaque id mark) t d = refl
absent_names b (entry.Enum id) t d = tt
absent_names b (entry.Trait id) t d = tt
absent_names b (entry.Function id) t d = tt

module _ (catalog : Catalog) where
  -- ---- level by level

  lent_element_level : (b : Borrow) (x : NumberedType-F NumberedType) → ElementNames (level_behind catalog b.lifetime x) (level_generics x) (element_reference b (level_entry catalog x))
  lent_element_level b (NumberedType-F.Named t) = lent_element_names b (entry_at catalog t.place) t
  lent_element_level b (NumberedType-F.SelfType t) = lent_element_names b (entry_at catalog t.place) t
  lent_element_level b _ = tt

  absent_level : (b : Borrow) (d : StdlibOrDiplomat) (x : NumberedType-F NumberedType) → ElementNames (level_behind catalog b.lifetime x) (level_generics x) (element_option b (level_entry catalog x) d)
  absent_level b d (NumberedType-F.Named t) = absent_names b (entry_at catalog t.place) t d
  absent_level b d (NumberedType-F.SelfType t) = absent_names b (entry_at catalog t.place) t d
  absent_level b d _ = tt

  optional_level : (d : StdlibOrDiplomat) (x : NumberedType-F NumberedType) → ElementNames (level_absent catalog x) (level_generics x) (level_optional_element catalog d x)
  optional_level d (NumberedType-F.Reference l m t) =
      at_type catalog (λ ls. ElementNames (level_behind catalog l (out-NumberedType t)) ls (element_option (lent_for l m) (named_entry catalog t) d)) t (absent_level (lent_for l m) d (out-NumberedType t))
  optional_level d _ = tt

  element_level : (x : NumberedType-F NumberedType) → ElementNames (level_element_named catalog x) (level_generics x) (level_element catalog x)
  element_level (NumberedType-F.Named t) = item_element_names (entry_at catalog t.place) t
  element_level (NumberedType-F.SelfType t) = item_element_names (entry_at catalog t.place) t
  element_level (NumberedType-F.Reference l m t) =
      at_type catalog (λ ls. ElementNames (level_behind catalog l (out-NumberedType t)) ls (element_reference (lent_for l m) (named_entry catalog t))) t (lent_element_level (lent_for l m) (out-NumberedType t))
  element_level (NumberedType-F.Option t d) =
      at_type catalog (λ ls. ElementNames (level_absent catalog (out-NumberedType t)) ls (level_optional_element catalog d (out-NumberedType t))) t (optional_level d (out-NumberedType t))
  element_level _ = tt

  lent_level : (b : Borrow) (x : NumberedType-F NumberedType) → ShapeNames (level_behind catalog b.lifetime x) (level_generics x) (reference_shape b (level_entry catalog x))
  lent_level b (NumberedType-F.Named t) = lent_names b (entry_at catalog t.place) t
  lent_level b (NumberedType-F.SelfType t) = lent_names b (entry_at catalog t.place) t
  lent_level b _ = tt

  option_lent_level : (b : Borrow) (d : StdlibOrDiplomat) (x : NumberedType-F NumberedType) → ShapeNames (level_behind catalog b.lifetime x) (level_generics x) (option_of_reference b (level_entry catalog x) d)
  option_lent_level b d (NumberedType-F.Named t) = option_lent_names b (entry_at catalog t.place) t d
  option_lent_level b d (NumberedType-F.SelfType t) = option_lent_names b (entry_at catalog t.place) t d
  option_lent_level b d _ = tt

  box_level : (x : NumberedType-F NumberedType) → ShapeNames (level_named catalog x) (level_generics x) (box_shape (level_entry catalog x))
  box_level (NumberedType-F.Named t) = box_names (entry_at catalog t.place) t
  box_level (NumberedType-F.SelfType t) = box_names (entry_at catalog t.place) t
  box_level _ = tt

  option_box_level : (d : StdlibOrDiplomat) (x : NumberedType-F NumberedType) → ShapeNames (level_named catalog x) (level_generics x) (option_of_box (level_entry catalog x) d)
  option_box_level d (NumberedType-F.Named t) = option_box_names (entry_at catalog t.place) t d
  option_box_level d (NumberedType-F.SelfType t) = option_box_names (entry_at catalog t.place) t d
  option_box_level d _ = tt

  text_names : (l : Option (MaybeStatic ℕ)) (e : StringEncoding) → flat_carries (text_slice l e) ≡ at_most_one l
  text_names None e = refl
  text_names (Some l) e = refl

  primitives_name : (b : Option (MaybeStatic ℕ × Mutability)) (p : PrimitiveType) → flat_carries (slice_of_primitives b p) ≡ borrow_lifetime b
  primitives_name None p = refl
  primitives_name (Some b) p = refl

  slice_names : (b : Option (MaybeStatic ℕ × Mutability)) (t : NumberedType) → SliceNames (level_element_named catalog (out-NumberedType t) ++ borrow_lifetime b) (generics_in t) (slice_borrow b) (element_of catalog t)
  slice_names b t =
      record {
        elements = level_element_named catalog (out-NumberedType t);
        named = at_type catalog (λ ls. ElementNames (level_element_named catalog (out-NumberedType t)) ls (element_of catalog t)) t (element_level (out-NumberedType t));
        whole = ap (λ own. level_element_named catalog (out-NumberedType t) ++ own) (own_is_borrow b);
      }

  option_level : (d : StdlibOrDiplomat) (x : NumberedType-F NumberedType) → ShapeNames (level_within catalog x) (level_generics x) (level_option catalog d x)
  option_level d (NumberedType-F.Primitive p) = refl
  option_level d (NumberedType-F.Named t) = option_item_names (entry_at catalog t.place) t d
  option_level d (NumberedType-F.SelfType t) = option_item_names (entry_at catalog t.place) t d
  option_level d (NumberedType-F.Reference l m t) =
      at_type catalog (λ ls. ShapeNames (level_behind catalog l (out-NumberedType t)) ls (option_of_reference (lent_for l m) (named_entry catalog t) d)) t (option_lent_level (lent_for l m) d (out-NumberedType t))
  option_level d (NumberedType-F.Box t) =
      at_type catalog (λ ls. ShapeNames (level_named catalog (out-NumberedType t)) ls (option_of_box (named_entry catalog t) d)) t (option_box_level d (out-NumberedType t))
  option_level d (NumberedType-F.StrSlice e c) = refl
  option_level d (NumberedType-F.StrReference l e c) = text_names l e
  option_level d (NumberedType-F.PrimitiveSlice b p c) = primitives_name b p
  option_level d _ = tt

  shape_level : (x : NumberedType-F NumberedType) → ShapeNames (level_lifetimes catalog x) (level_generics x) (shape_of_level catalog x)
  shape_level (NumberedType-F.Primitive p) = refl
  shape_level NumberedType-F.Ordering = refl
  shape_level (NumberedType-F.Named t) = item_names (entry_at catalog t.place) t
  shape_level (NumberedType-F.SelfType t) = item_names (entry_at catalog t.place) t
  shape_level (NumberedType-F.ImplTrait t) = tt
  shape_level (NumberedType-F.Reference l m t) =
      at_type catalog (λ ls. ShapeNames (level_behind catalog l (out-NumberedType t)) ls (reference_shape (lent_for l m) (named_entry catalog t))) t (lent_level (lent_for l m) (out-NumberedType t))
  shape_level (NumberedType-F.Box t) = at_type catalog (λ ls. ShapeNames (level_named catalog (out-NumberedType t)) ls (box_shape (named_entry catalog t))) t (box_level (out-NumberedType t))
  shape_level (NumberedType-F.Option t d) =
      at_type catalog (λ ls. ShapeNames (level_within catalog (out-NumberedType t)) ls (level_option catalog d (out-NumberedType t))) t (option_level d (out-NumberedType t))
  shape_level (NumberedType-F.Result t e d) = tt
  shape_level (NumberedType-F.Write w) = tt
  shape_level (NumberedType-F.StrReference l e d) = text_names l e
  shape_level (NumberedType-F.StrSlice e d) = refl
  shape_level (NumberedType-F.PrimitiveSlice b p d) = primitives_name b p
  shape_level (NumberedType-F.CustomTypeSlice b t d) = slice_names b t
  shape_level (NumberedType-F.Function ts t m) = tt
  shape_level NumberedType-F.Unit = tt

  type_named : (ty : NumberedType) → IfSome (type_form {P = OutputOnly} {C = NoCallback} {I = ℕ} of_outputs catalog ty) (Names (value_lifetimes catalog ty))
  type_named ty =
      shape_made (value_lifetimes catalog ty) (generics_in ty) (shape_of catalog ty)
      (at_type catalog (λ ls. ShapeNames (value_lifetimes catalog ty) ls (shape_of catalog ty)) ty (shape_level (out-NumberedType ty)))

  -- ---- returns

  abbrev Success : Type 0
  Success = SuccessType OutputOnly NoCallback MaybeOwn ℕ ReturnableStructPath NoTraitPath

  abbrev SuccessNames : Lifetimes → Success → Type 0
  SuccessNames all s = lifetimes_in (type_in s) ≡ all

  abbrev ReturnNames : Lifetimes → Returned → Type 0
  ReturnNames all r = lifetimes_named r ≡ all

  mapped : {A B : Type 0} (P : A → Type 0) (Q : B → Type 0) (f : A → B) → ((a : A) → P a → Q (f a)) → (o : Option A) → IfSome o P → IfSome (option_map f o) Q
  mapped P Q f makes None h = tt
  mapped P Q f makes (Some a) h = makes a h

  out_named : (ty : NumberedType) → IfSome (out_form of_outputs catalog ty) (SuccessNames (value_lifetimes catalog ty))
  out_named ty = mapped (Names (value_lifetimes catalog ty)) (SuccessNames (value_lifetimes catalog ty)) (λ t. success.OutType t) (λ t h. h) (type_form of_outputs catalog ty) (type_named ty)

  module _ (written : Option WriteType) where
    unit_named : (w : Option WriteType) → SuccessNames [] (unit_form w)
    unit_named None = refl
    unit_named (Some w) = refl

    success_level : (ty : NumberedType) (x : NumberedType-F NumberedType) → IfSome (out_form of_outputs catalog ty) (SuccessNames (level_lifetimes catalog x))
        → IfSome (level_success_form of_outputs catalog written ty x) (SuccessNames (level_lifetimes catalog x))
    success_level ty NumberedType-F.Unit h = unit_named written
    success_level ty _ h = h

    success_named : (ty : NumberedType) → IfSome (success_form of_outputs catalog written ty) (SuccessNames (value_lifetimes catalog ty))
    success_named ty = success_level ty (out-NumberedType ty) (out_named ty)

    abbrev ErrorNames : Lifetimes → Option ReturnedType → Type 0
    ErrorNames all e = lifetimes_in e ≡ all

    error_level : (ty : NumberedType) (x : NumberedType-F NumberedType) → IfSome (option_map (λ t. Some t) (type_form {P = OutputOnly} {C = NoCallback} {I = ℕ} of_outputs catalog ty)) (ErrorNames (level_lifetimes catalog x))
        → IfSome (level_error_form of_outputs catalog ty x) (ErrorNames (level_lifetimes catalog x))
    error_level ty NumberedType-F.Unit h = refl
    error_level ty _ h = h

    error_named : (ty : NumberedType) → IfSome (error_form of_outputs catalog ty) (ErrorNames (value_lifetimes catalog ty))
    error_named ty =
        error_level ty (out-NumberedType ty)
        (mapped (Names (value_lifetimes catalog ty)) (ErrorNames (value_lifetimes catalog ty)) (λ t. Some t) (λ t h. h) (type_form of_outputs catalog ty) (type_named ty))

    infallible : (all : Lifetimes) (o : Option Success) → IfSome o (SuccessNames all) → IfSome (option_map (λ s. returned.Infallible s) o) (ReturnNames all)
    infallible all o h = mapped (SuccessNames all) (ReturnNames all) (λ s. returned.Infallible s) (λ s is. none_more (lifetimes_in (type_in s)) ∙ is) o h

    nullable : (all : Lifetimes) (o : Option Success) → IfSome o (SuccessNames all) → IfSome (option_map (λ s. returned.Nullable s) o) (ReturnNames all)
    nullable all o h = mapped (SuccessNames all) (ReturnNames all) (λ s. returned.Nullable s) (λ s is. none_more (lifetimes_in (type_in s)) ∙ is) o h

    fallible : (all more : Lifetimes) (o : Option Success) (e : Option (Option ReturnedType)) → IfSome o (SuccessNames all) → IfSome e (ErrorNames more)
        → IfSome (both_given (λ s e. returned.Fallible s e) o e) (ReturnNames (all ++ more))
    fallible all more (Some s) (Some e) h k = ap (λ ls. ls ++ lifetimes_in e) h ∙ ap (λ ls. all ++ ls) k
    fallible all more (Some s) None h k = tt
    fallible all more None e h k = tt

    option_returned : (ty t : NumberedType) (x : NumberedType-F NumberedType) → IfSome (out_form of_outputs catalog ty) (SuccessNames (level_within catalog x))
        → IfSome (success_form of_outputs catalog written t) (SuccessNames (level_lifetimes catalog x)) → IfSome (level_option_form of_outputs catalog written ty t x) (ReturnNames (level_lifetimes catalog x))
    option_returned ty t (NumberedType-F.Reference l m r) whole inner = infallible (level_within catalog (NumberedType-F.Reference l m r)) (out_form of_outputs catalog ty) whole
    option_returned ty t (NumberedType-F.Box r) whole inner = infallible (level_within catalog (NumberedType-F.Box r)) (out_form of_outputs catalog ty) whole
    option_returned ty t x whole inner = nullable (level_lifetimes catalog x) (success_form of_outputs catalog written t) inner

    returned_level : (ty : NumberedType) (x : NumberedType-F NumberedType) → IfSome (out_form of_outputs catalog ty) (SuccessNames (level_lifetimes catalog x))
        → IfSome (success_form of_outputs catalog written ty) (SuccessNames (level_lifetimes catalog x)) → IfSome (level_return_form of_outputs catalog written ty x) (ReturnNames (returned_level_lifetimes catalog x))
    returned_level ty (NumberedType-F.Option t d) whole inner = option_returned ty t (out-NumberedType t) whole (success_named t)
    returned_level ty (NumberedType-F.Result t e d) whole inner =
        fallible (value_lifetimes catalog t) (value_lifetimes catalog e) (success_form of_outputs catalog written t) (error_form of_outputs catalog e) (success_named t) (error_named e)
    returned_level ty x whole inner = infallible (level_lifetimes catalog x) (success_form of_outputs catalog written ty) inner

    pub return_named : (ty : NumberedType) → IfSome (method_return_form catalog written ty) (λ r. lifetimes_named r ≡ returned_level_lifetimes catalog (out-NumberedType ty))
    return_named ty = returned_level ty (out-NumberedType ty) (out_named ty) (success_named ty)

    pub output_named : (o : Option NumberedType) → IfSome (output_form catalog written o) (λ r. lifetimes_named r ≡ returned_lifetimes catalog o)
    output_named None = none_more (lifetimes_in (type_in (unit_form written))) ∙ unit_named written
    output_named (Some ty) = return_named ty
