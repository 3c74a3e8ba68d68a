-- What items are lowered to fits, where names do.
use Rattle.std.proofs.Common.{List, [], length, Bool, true, false, Option, Some, None}
use Rattle.std.specs.Prelude.{IfSome, filter, if◌then◌else◌}
use Rattle.std.specs.List.{All, flat_map}
use Rattle.std.proofs.lemmas.List.Elements.{All-cons, All-nil}
use Rattle.bridge_ast.specs.declared.place.ItemPlace.{ItemPlace}
use Rattle.bridge_decl.specs.declared.enums.Enum.{Enum}
use Rattle.bridge_decl.specs.declared.functions.Function.{Function}
use Rattle.bridge_decl.specs.declared.methods.Method.{Method as DeclaredMethod}
use Rattle.bridge_decl.specs.declared.structs.OpaqueType.{OpaqueType}
use Rattle.bridge_decl.specs.declared.structs.Struct.{Struct}
use Rattle.bridge_decl.specs.declared.traits.Trait.{Trait}
use Rattle.hir_attrs.specs.Reading.{marks_of}
use Rattle.hir_attrs.specs.declared.attrs.Attrs.{Attrs}
use Rattle.hir_definitions.specs.declared.definitions.StructField.{StructField}
use Rattle.hir_definitions.specs.declared.methods.Method.{Method}
use Rattle.hir_elide.proofs.BelowLemmas.{each_all}
use Rattle.hir_fields.specs.Fields.{fields_form, out_fields_form}
use Rattle.hir_fitting.specs.Fitting.{Fits}
use Rattle.hir_fitting.specs.Parts.{DefinitionFits, PartFits, method_part, parts_of_enum, parts_of_function, parts_of_opaque, parts_of_struct, parts_of_trait}
use Rattle.hir_fitting.specs.declared.census.Census.{Census}
use Rattle.hir_form.specs.ParamForms.{field_form, out_type_form}
use Rattle.hir_form.specs.ReturnForms.{both_given}
use Rattle.hir_items.specs.Enums.{enum_item_form, enum_with}
use Rattle.hir_items.specs.FreeFunctions.{function_item_form}
use Rattle.hir_items.specs.Inheriting.{item_marks, item_start, method_start}
use Rattle.hir_items.specs.Opaques.{opaque_item_form, opaque_with}
use Rattle.hir_items.specs.Setting.{Setting}
use Rattle.hir_items.specs.Structs.{out_struct_item_form, struct_item_form, struct_with, type_fields_form}
use Rattle.hir_items.specs.TypeMethods.{each_method_form, is_enabled_method, one_method_form, type_method_form}
use Rattle.hir_mentions.specs.Callbacks.{callback_mentions, field_mentions, output_mentions}
use Rattle.hir_mentions.specs.Definitions.{fields_mentions}
use Rattle.hir_mentions.specs.Mentions.{Mentioned}
use Rattle.hir_traits.specs.Traits.{trait_form, trait_with}
use Rattle.hir_types.specs.declared.types.HirType.{HirType}
use Rattle.hir_fitting_forms.specs.Naming.{NamesFit}
use Rattle.hir_fitting_forms.proofs.Fields.{fields_form_fits}
use Rattle.hir_fitting_forms.proofs.Lists.{given_all, if_both, if_made}
use Rattle.hir_fitting_forms.proofs.Methods.{function_form_fits, method_form_fits}
use Rattle.hir_fitting_forms.proofs.Positions.{field_made, output_made}
use Rattle.hir_fitting_forms.proofs.Staged.{function_staged, method_staged, trait_method_staged}
use Rattle.hir_fitting_forms.proofs.TraitParts.{trait_form_made}
use Rattle.hir_fitting_forms.proofs.Whole.{struct_whole, trait_whole, type_whole}
use Rattle.std.proofs.lemmas.Option.{IfSome_then}

-- one of two lists
chosen : {A : Type 0} (P : List A → Type 0) (b : Bool) (form : Option (List A)) → P [] → IfSome form P → IfSome (if b then Some [] else form) P
chosen P true form none h = none
chosen P false form none h = h

module _ (census : Census) (s : Setting) (fit : NamesFit census s.catalog s.names) where
  abbrev MethodsFit : List Method → Type 0
  MethodsFit ms = All (λ m. PartFits census (method_part m)) ms

  one_made : (place : ItemPlace) (set : Attrs) (method : DeclaredMethod) → IfSome (one_method_form s place set method) (λ m. PartFits census (method_part m))
  one_made place set method = method_form_fits census s.catalog s.backend s.names place (method_start set) method (method_staged census s.catalog s.names fit place method)

  methods_made : (place : ItemPlace) (set marks : Attrs) (methods : List DeclaredMethod) → IfSome (type_method_form s place set marks methods) MethodsFit
  methods_made place set marks methods =
      chosen MethodsFit marks.disable (each_method_form s place set methods) (All-nil (λ m. PartFits census (method_part m)))
      (given_all (λ m. PartFits census (method_part m)) (one_method_form s place set) (one_made place set) (filter (is_enabled_method s.backend set) methods))

  pub opaque_item_fits : (place : ItemPlace) (set : Attrs) (item : OpaqueType) → IfSome (opaque_item_form s place set item) (λ def. DefinitionFits census (parts_of_opaque def))
  opaque_item_fits place set item =
      let marks = item_marks s.backend set item.attrs in
      if_made MethodsFit (λ def. DefinitionFits census (parts_of_opaque def)) (opaque_with s.backend set item) (type_whole census) (type_method_form s place set marks item.methods) (methods_made place set marks item.methods)

  pub enum_item_fits : (place : ItemPlace) (set : Attrs) (item : Enum) → IfSome (enum_item_form s place set item) (λ def. DefinitionFits census (parts_of_enum def))
  enum_item_fits place set item =
      let marks = item_marks s.backend set item.attrs in
      if_made MethodsFit (λ def. DefinitionFits census (parts_of_enum def)) (enum_with s.backend set item) (type_whole census) (type_method_form s place set marks item.methods) (methods_made place set marks item.methods)

  -- a struct, by the position of its fields' types
  struct_made : {P C O I S T : Type 0} (of_type : HirType P C O I S T → List Mentioned) (place : ItemPlace) (set : Attrs) (item : Struct) (form : Option (List (StructField P C O I S T)))
      → IfSome form (λ fields. All (Fits census (Some (length item.lifetimes.nodes))) (fields_mentions of_type fields))
      → IfSome (both_given (struct_with s.backend set item) (type_fields_form (item_marks s.backend set item.attrs) form) (type_method_form s place set (item_marks s.backend set item.attrs) item.methods))
      (λ def. DefinitionFits census (parts_of_struct of_type def))
  struct_made {P = P} {C = C} {O = O} {I = I} {S = S} {T = T} of_type place set item form h =
      let marks = item_marks s.backend set item.attrs in
      let FieldsGood : List (StructField P C O I S T) → Type 0 = λ fields. All (Fits census (Some (length item.lifetimes.nodes))) (fields_mentions of_type fields) in
      if_both FieldsGood MethodsFit (λ def. DefinitionFits census (parts_of_struct of_type def)) (struct_with s.backend set item)
      (λ fields ms g k. struct_whole census of_type (struct_with s.backend set item fields ms) g (type_whole census ms k))
      (type_fields_form marks form) (type_method_form s place set marks item.methods) (chosen FieldsGood marks.disable form (All-nil (Fits census (Some (length item.lifetimes.nodes)))) h)
      (methods_made place set marks item.methods)

  pub struct_item_fits : (place : ItemPlace) (set : Attrs) (item : Struct) → IfSome (struct_item_form s place set item) (λ def. DefinitionFits census (parts_of_struct field_mentions def))
  struct_item_fits place set item =
      struct_made field_mentions place set item (fields_form s.backend s.catalog s.names item)
      (fields_form_fits census s.catalog s.names fit (field_form s.catalog) field_mentions (λ count. field_made census count s.catalog) s.backend item)

  pub out_struct_item_fits : (place : ItemPlace) (set : Attrs) (item : Struct) → IfSome (out_struct_item_form s place set item) (λ def. DefinitionFits census (parts_of_struct output_mentions def))
  out_struct_item_fits place set item =
      struct_made output_mentions place set item (out_fields_form s.backend s.catalog s.names item)
      (fields_form_fits census s.catalog s.names fit (out_type_form s.catalog) output_mentions (λ count. output_made census count s.catalog) s.backend item)

  pub function_item_fits : (set : Attrs) (item : Function) → IfSome (function_item_form s set item) (λ m. DefinitionFits census (parts_of_function m))
  function_item_fits set item =
      IfSome_then (function_item_form s set item) (function_form_fits census s.catalog s.backend s.names (item_start set) item (function_staged census s.catalog s.names fit item))
      (λ m h. All-cons (PartFits census) (method_part m) [] h (All-nil (PartFits census)))

  pub trait_item_fits : (place : ItemPlace) (set : Attrs) (item : Trait) → IfSome (trait_form s.backend s.catalog s.names place (item_start set) item) (λ def. DefinitionFits census (parts_of_trait def))
  trait_item_fits place set item =
      trait_form_made census s.catalog s.backend s.names place (λ method. trait_method_staged census s.catalog s.names fit place method) (λ def. DefinitionFits census (parts_of_trait def)) (item_start set) item
      (λ cs h. trait_whole census (trait_with s.backend (marks_of s.backend item.attrs (item_start set)) item cs) (each_all (Fits census None) (flat_map callback_mentions cs) h) (All-nil (Fits census None)))
