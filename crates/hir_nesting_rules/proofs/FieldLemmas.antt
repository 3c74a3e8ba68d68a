-- What a struct is lowered to contains what its fields hold.
use Rattle.std.proofs.Common.{◌≡◌, ℕ, List, [], ◌∷◌, ◌++◌, map, Bool, true, false, Option, Some, None, Result, Ok, Err, if◌then◌else◌, refl, ap, subst, ◌∙◌}
use Rattle.std.specs.Prelude.{IfSome, option_map}
use Rattle.std.specs.List.{flat_map}
use Rattle.std.proofs.lemmas.Option.{none-some, same_Some}
use Rattle.bridge_ast.specs.declared.place.ItemPlace.{ItemPlace}
use Rattle.bridge_decl.specs.declared.structs.Field.{Field}
use Rattle.bridge_decl.specs.declared.structs.Struct.{Struct}
use Rattle.bridge_order.specs.declared.catalog.Catalog.{Catalog}
use Rattle.hir_attrs.specs.declared.attrs.Attrs.{Attrs}
use Rattle.hir_backends.specs.Backend.{Backend}
use Rattle.hir_definitions.specs.declared.definitions.StructField.{StructField}
use Rattle.hir_fields.specs.Fields.{fields_form, fields_with, out_fields_form}
use Rattle.hir_fields.specs.Types.{field_types_form, numbered_form}
use Rattle.hir_form.specs.Makers.{of_fields, of_outputs}
use Rattle.hir_form.specs.ParamForms.{all_given, field_form, out_type_form}
use Rattle.hir_form.specs.ReturnForms.{both_given}
use Rattle.hir_ids.specs.declared.ids.TypeId.{TypeId}
use Rattle.hir_ids.specs.declared.ids.TypeId.TheVariants as type
use Rattle.hir_items.specs.Inheriting.{item_marks}
use Rattle.hir_items.specs.Setting.{Setting}
use Rattle.hir_items.specs.Structs.{out_struct_item_form, struct_item_form, struct_with, type_fields_form}
use Rattle.hir_items.specs.TypeMethods.{type_method_form}
use Rattle.hir_mentions.specs.Containing.{contained_in, contained_in_type}
use Rattle.hir_number.specs.Naming.{Naming, type_found}
use Rattle.hir_number.specs.Numbers.{signature_numbers}
use Rattle.hir_number.specs.Shapes.{NumberLists, shape}
use Rattle.hir_number.specs.Signatures.{field_uses}
use Rattle.hir_number.specs.declared.fault.NumberFault.{NumberFault}
use Rattle.hir_number.specs.declared.numbered.NumberedType.{NumberedType}
use Rattle.hir_stages.specs.Filling.{fill_each, fill_type}
use Rattle.hir_stages.specs.Numbering.{filled_fields}
use Rattle.hir_types.specs.Paths.{returnable_id}
use Rattle.hir_types.specs.declared.types.HirType.{HirType}
use Rattle.hir_nesting_rules.specs.Holding.{struct_named, structs_held}
use Rattle.hir_nesting_rules.proofs.ContainedLemmas.{fields_name, out_fields_name, type_contains}
use Rattle.hir_nesting_rules.proofs.FilledLemmas.{filled_is}
use Rattle.hir_nesting_rules.proofs.HeldIds.{found_ids, id_at, ids_held}

-- the ids of the structs that fields hold, in order
abbrev pub field_ids : Catalog → Naming → List Field → List TypeId
field_ids catalog names fields = flat_map (λ f. map (id_at catalog) (structs_held names f.ty)) fields

-- what a path leads to is a struct, by the catalog, exactly where the path names one
abbrev pub AreEntered : Catalog → Naming → Type 0
AreEntered catalog names = (path : List (List ℕ)) → found_ids catalog (type_found (names.type_at path)) ≡ map (id_at catalog) (struct_named (names.type_at path))

-- ---- fields

module _ (catalog : Catalog) (names : Naming) (entered : AreEntered catalog names) {P C O I S T : Type 0} (struct : S → TypeId) (form : NumberedType → Option (HirType P C O I S T))
    (makes : (ty : NumberedType) → IfSome (form ty) (λ t. contained_in_type struct t ≡ ids_held catalog ty)) (backend : Backend)
  where
    abbrev filled_from : List Field → NumberLists → List NumberedType
    filled_from fields ns = (fill_each (map fill_type (map (λ f. shape names f.ty) fields)) ns).0

    -- fields with what they are filled with, as far as all have a form
    abbrev AreContained : List Field → NumberLists → Type 0
    AreContained fields ns =
        (types : List (HirType P C O I S T)) → all_given (map form (filled_from fields ns)) ≡ Some types → contained_in struct (fields_with backend fields types) ≡ field_ids catalog names fields

    next_contained : (f : Field) (fields : List Field) (ns left : NumberLists) (t : HirType P C O I S T) → contained_in_type struct t ≡ map (id_at catalog) (structs_held names f.ty) → AreContained fields left
        → (rest : Option (List (HirType P C O I S T))) → all_given (map form (filled_from fields left)) ≡ rest → (types : List (HirType P C O I S T)) → option_map (λ more. t ∷ more) rest ≡ Some types
        → contained_in struct (fields_with backend (f ∷ fields) types) ≡ field_ids catalog names (f ∷ fields)
    next_contained f fields ns left t here later None is types all = absurd (none-some types all)
    next_contained f fields ns left t here later (Some more) is types all =
        subst (λ ts. contained_in struct (fields_with backend (f ∷ fields) ts) ≡ field_ids catalog names (f ∷ fields)) (same_Some (t ∷ more) types all)
        (ap (λ ids. ids ++ contained_in struct (fields_with backend fields more)) here ∙ ap (λ ids. map (id_at catalog) (structs_held names f.ty) ++ ids) (later more is))

    first_contained : (f : Field) (fields : List Field) (ns left : NumberLists) (o : Option (HirType P C O I S T)) → IfSome o (λ t. contained_in_type struct t ≡ map (id_at catalog) (structs_held names f.ty))
        → AreContained fields left → (types : List (HirType P C O I S T)) → all_given (o ∷ map form (filled_from fields left)) ≡ Some types
        → contained_in struct (fields_with backend (f ∷ fields) types) ≡ field_ids catalog names (f ∷ fields)
    first_contained f fields ns left None here later types all = absurd (none-some types all)
    first_contained f fields ns left (Some t) here later types all = next_contained f fields ns left t here later (all_given (map form (filled_from fields left))) refl types all

    made_of : (f : Field) (ns : NumberLists) → IfSome (form (fill_type (shape names f.ty) ns).0) (λ t. contained_in_type struct t ≡ map (id_at catalog) (structs_held names f.ty))
    made_of f ns =
        subst (λ ids. IfSome (form (fill_type (shape names f.ty) ns).0) (λ t. contained_in_type struct t ≡ ids)) (filled_is catalog names entered f.ty ns) (makes (fill_type (shape names f.ty) ns).0)

    all_contained : (fields : List Field) (ns : NumberLists) → AreContained fields ns
    all_contained [] ns types all = refl
    all_contained (f ∷ fields) ns types all =
        first_contained f fields ns (fill_type (shape names f.ty) ns).1 (form (fill_type (shape names f.ty) ns).0) (made_of f ns) (all_contained fields (fill_type (shape names f.ty) ns).1) types all

    -- what fields stand for contains what they hold
    abbrev Good : Struct → List (StructField P C O I S T) → Type 0
    Good item fields = contained_in struct fields ≡ field_ids catalog names item.fields

    given_fields : (item : Struct) (ns : NumberLists) (o : Option (List (HirType P C O I S T))) → all_given (map form (filled_fields names item ns)) ≡ o → IfSome (option_map (fields_with backend item.fields) o) (Good item)
    given_fields item ns None is = tt
    given_fields item ns (Some types) is = all_contained item.fields ns types is

    numbered_fields : (item : Struct) (r : Result NumberLists NumberFault) → IfSome (option_map (fields_with backend item.fields) (numbered_form form names item r)) (Good item)
    numbered_fields item (Ok ns) = given_fields item ns (all_given (map form (filled_fields names item ns))) refl
    numbered_fields item (Err fault) = tt

    fields_contain : (item : Struct) → IfSome (option_map (fields_with backend item.fields) (field_types_form form names item)) (Good item)
    fields_contain item = numbered_fields item (signature_numbers item.lifetimes (field_uses names item.fields))

-- ---- structs

-- of what is made of a first part and another one
of_first : {A B D : Type 0} (Q : A → Type 0) (R : D → Type 0) (f : A → B → D) → ((a : A) (b : B) → Q a → R (f a b)) → (x : Option A) (y : Option B) → IfSome x Q → IfSome (both_given f x y) R
of_first Q R f makes (Some a) (Some b) h = makes a b h
of_first Q R f makes (Some a) None h = tt
of_first Q R f makes None y h = tt

unless_disabled : {P C O I S T : Type 0} (struct : S → TypeId) (b : Bool) (form : Option (List (StructField P C O I S T))) (ids : List TypeId) → IfSome form (λ fields. contained_in struct fields ≡ ids)
    → IfSome (if b then Some [] else form) (λ fields. contained_in struct fields ≡ (if b then [] else ids))
unless_disabled struct true form ids h = refl
unless_disabled struct false form ids h = h

-- the ids of the structs that a struct with the marks of a module holds: a disabled one holds none
abbrev pub struct_ids : Setting → Attrs → Struct → List TypeId
struct_ids s set item = if (item_marks s.backend set item.attrs).disable then [] else field_ids s.catalog s.names item.fields

module _ (s : Setting) (entered : AreEntered s.catalog s.names) (place : ItemPlace) (set : Attrs) (item : Struct) where
  abbrev marks : Attrs
  marks = item_marks s.backend set item.attrs

  pub struct_contains : IfSome (struct_item_form s place set item) (λ def. contained_in (λ path. type.Struct path.tcx_id) def.fields ≡ struct_ids s set item)
  struct_contains =
      of_first (λ fields. contained_in (λ path. type.Struct path.tcx_id) fields ≡ struct_ids s set item) (λ def. contained_in (λ path. type.Struct path.tcx_id) def.fields ≡ struct_ids s set item)
      (struct_with s.backend set item) (λ fields methods h. h) (type_fields_form marks (fields_form s.backend s.catalog s.names item)) (type_method_form s place set marks item.methods)
      (unless_disabled (λ path. type.Struct path.tcx_id) marks.disable (fields_form s.backend s.catalog s.names item) (field_ids s.catalog s.names item.fields)
      (fields_contain s.catalog s.names entered (λ path. type.Struct path.tcx_id) (field_form s.catalog) (type_contains s.catalog _ _ _ of_fields (λ path. type.Struct path.tcx_id) fields_name) s.backend item))

  pub out_struct_contains : IfSome (out_struct_item_form s place set item) (λ def. contained_in returnable_id def.fields ≡ struct_ids s set item)
  out_struct_contains =
      of_first (λ fields. contained_in returnable_id fields ≡ struct_ids s set item) (λ def. contained_in returnable_id def.fields ≡ struct_ids s set item)
      (struct_with s.backend set item) (λ fields methods h. h) (type_fields_form marks (out_fields_form s.backend s.catalog s.names item)) (type_method_form s place set marks item.methods)
      (unless_disabled returnable_id marks.disable (out_fields_form s.backend s.catalog s.names item) (field_ids s.catalog s.names item.fields)
      (fields_contain s.catalog s.names entered returnable_id (out_type_form s.catalog) (type_contains s.catalog _ _ _ of_outputs returnable_id out_fields_name) s.backend item))
