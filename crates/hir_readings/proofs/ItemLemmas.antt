-- What items are lowered to has the fields and the methods that are declared.
use Rattle.std.proofs.Common.{◌≡◌, List, [], map, Bool, true, false, cond, Option, Some, None, Result, Ok, Err, if◌then◌else◌, refl, ◌∙◌}
use Rattle.std.specs.Prelude.{IfSome, option_and_then, option_map}
use Rattle.std.specs.List.{AllZip, filter}
use Rattle.bridge_ast.specs.declared.place.ItemPlace.{ItemPlace}
use Rattle.bridge_decl.specs.declared.attrs.Attrs.{Attrs as DeclaredAttrs}
use Rattle.bridge_decl.specs.declared.methods.Method.{Method as DeclaredMethod}
use Rattle.bridge_decl.specs.declared.modules.Item.{Item}
use Rattle.bridge_decl.specs.declared.modules.Item.TheVariants as item
use Rattle.bridge_decl.specs.declared.modules.Module.{Module}
use Rattle.bridge_decl.specs.declared.structs.Field.{Field}
use Rattle.bridge_decl.specs.declared.structs.Struct.{Struct}
use Rattle.hir_attrs.specs.declared.attrs.Attrs.{Attrs}
use Rattle.hir_definitions.specs.declared.methods.Method.{Method}
use Rattle.hir_fields.specs.Fields.{fields_form, fields_with}
use Rattle.hir_fields.specs.Types.{numbered_form}
use Rattle.hir_form.specs.ParamForms.{all_given, field_form}
use Rattle.hir_form.specs.ReturnForms.{both_given}
use Rattle.hir_ids.specs.declared.ids.TypeId.{TypeId}
use Rattle.hir_items.specs.Enums.{enum_with}
use Rattle.hir_items.specs.Inheriting.{item_marks, item_start, method_start}
use Rattle.hir_items.specs.Opaques.{opaque_with}
use Rattle.hir_items.specs.Setting.{Setting}
use Rattle.hir_items.specs.Structs.{out_struct_item_form, struct_item_form, struct_with, type_fields_form}
use Rattle.hir_items.specs.TypeMethods.{each_method_form, is_enabled_method, one_method_form, type_method_form}
use Rattle.hir_lowering.specs.Interface.{Interface, setting_in}
use Rattle.hir_lowering.specs.Kinds.{ItemMaking, enum_made, function_made, opaque_made, out_struct_made, struct_made}
use Rattle.hir_lowering.specs.Placing.{form_at, form_of, found_at}
use Rattle.hir_mentions.specs.Mentions.{where_any}
use Rattle.hir_modules.specs.ModuleMarks.{module_marks}
use Rattle.hir_number.specs.Numbers.{signature_numbers}
use Rattle.hir_number.specs.Shapes.{NumberLists, shape}
use Rattle.hir_number.specs.Signatures.{field_uses}
use Rattle.hir_number.specs.declared.fault.NumberFault.{NumberFault}
use Rattle.hir_number.specs.declared.numbered.NumberedType.{NumberedType}
use Rattle.hir_skeleton.specs.Lowered.{field_skeleton, input_fields}
use Rattle.hir_skeleton.specs.Skeletons.{Skeleton}
use Rattle.hir_stages.specs.Numbering.{filled_fields}
use Rattle.hir_types.specs.SelfTypes.{FieldType}
use Rattle.hir_context.specs.Lookups.{InputStruct}
use Rattle.hir_readings.specs.Declared.{declared_fields, declared_function, declared_methods, declared_types, enabled_methods_of, found_fields, found_function, found_methods, method_signature, numbered_as, struct_skeletons}
use Rattle.hir_readings.specs.Knowing.{id_there, known_as}
use Rattle.hir_readings.specs.NumberedSkeletons.{numbered_skeleton}
use Rattle.hir_readings.proofs.JoinLemmas.{all_joined, all_zipped}
use Rattle.hir_readings.proofs.MethodLemmas.{HasDeclared, HasFunction, function_has, known_twice, method_has}
use Rattle.hir_readings.proofs.TypeLemmas.{field_has}

-- ---- fields

module _ (s : Setting) where
  abbrev known : Skeleton ItemPlace → Skeleton TypeId
  known = known_as (id_there s.catalog)

  abbrev numbered_known : NumberedType → Skeleton TypeId
  numbered_known ty = known (numbered_skeleton s.catalog ty)

  abbrev types_known : Option (List NumberedType) → List (Skeleton TypeId)
  types_known types = map known (where_any (λ ts. map (numbered_skeleton s.catalog) ts) types)

  given_fields : (declared : Struct) (ns : NumberLists) (o : Option (List FieldType)) → all_given (map (field_form s.catalog) (filled_fields s.names declared ns)) ≡ o
      → IfSome (option_map (fields_with s.backend declared.fields) o) (λ fields. map (λ field. field_skeleton field.ty) fields ≡ types_known (Some (filled_fields s.names declared ns)))
  given_fields declared ns None is = tt
  given_fields declared ns (Some types) is =
      all_joined (λ (field : Field). shape s.names field.ty) (field_form s.catalog) field_skeleton numbered_known (field_has s.catalog) (λ fields ts. map (λ field. field_skeleton field.ty) (fields_with s.backend fields ts)) refl
      (λ field fields t ts. refl) declared.fields ns types is
      ∙ known_twice known (numbered_skeleton s.catalog) (filled_fields s.names declared ns)

  numbered_fields : (declared : Struct) (r : Result NumberLists NumberFault)
      → IfSome (option_map (fields_with s.backend declared.fields) (numbered_form (field_form s.catalog) s.names declared r))
      (λ fields. map (λ field. field_skeleton field.ty) fields ≡ types_known (numbered_as (filled_fields s.names declared) r))
  numbered_fields declared (Ok ns) = given_fields declared ns (all_given (map (field_form s.catalog) (filled_fields s.names declared ns))) refl
  numbered_fields declared (Err fault) = tt

  unless_disabled : {F : Type 0} (read : F → Skeleton TypeId) (b : Bool) (form : Option (List F)) (declared : List (Skeleton ItemPlace)) → IfSome form (λ fields. map read fields ≡ map known declared)
      → IfSome (if b then Some [] else form) (λ fields. cond b [] (map read fields) ≡ map known (if b then [] else declared))
  unless_disabled read true form declared h = refl
  unless_disabled read false form declared h = h

-- of what is made of two parts
pub of_first : {A B D : Type 0} (Q : A → Type 0) (R : D → Type 0) (f : A → B → D) → ((a : A) (b : B) → Q a → R (f a b)) → (x : Option A) (y : Option B) → IfSome x Q → IfSome (both_given f x y) R
of_first Q R f makes (Some a) (Some b) h = makes a b h
of_first Q R f makes (Some a) None h = tt
of_first Q R f makes None y h = tt

pub of_second : {A B D : Type 0} (Q : B → Type 0) (R : D → Type 0) (f : A → B → D) → ((a : A) (b : B) → Q b → R (f a b)) → (x : Option A) (y : Option B) → IfSome y Q → IfSome (both_given f x y) R
of_second Q R f makes (Some a) (Some b) h = makes a b h
of_second Q R f makes (Some a) None h = tt
of_second Q R f makes None y h = tt

struct_has_fields : (s : Setting) (place : ItemPlace) (set : Attrs) (declared : Struct)
    → IfSome (struct_item_form s place set declared) (λ def. input_fields def ≡ map (known_as (id_there s.catalog)) (struct_skeletons s set declared))
struct_has_fields s place set declared =
    let marks = item_marks s.backend set declared.attrs in
    of_first (λ fields. cond marks.disable [] (map (λ field. field_skeleton field.ty) fields) ≡ map (known_as (id_there s.catalog)) (struct_skeletons s set declared))
    (λ def. input_fields def ≡ map (known_as (id_there s.catalog)) (struct_skeletons s set declared)) (struct_with s.backend set declared) (λ fields methods h. h)
    (type_fields_form marks (fields_form s.backend s.catalog s.names declared)) (type_method_form s place set marks declared.methods)
    (unless_disabled s (λ field. field_skeleton field.ty) marks.disable (fields_form s.backend s.catalog s.names declared) (where_any (λ ts. map (numbered_skeleton s.catalog) ts) (declared_types s.names declared))
    (numbered_fields s declared (signature_numbers declared.lifetimes (field_uses s.names declared.fields))))

-- ---- methods

module _ (s : Setting) (place : ItemPlace) (set : Attrs) where
  abbrev AreDeclared : List Method → List DeclaredMethod → Type 0
  AreDeclared ms declared = AllZip (λ m method. HasDeclared s.catalog m (method_signature s.names method)) ms declared

  each_has : (methods : List DeclaredMethod) → IfSome (each_method_form s place set methods) (λ ms. AreDeclared ms (filter (is_enabled_method s.backend set) methods))
  each_has methods =
      all_zipped (one_method_form s place set) (λ m method. HasDeclared s.catalog m (method_signature s.names method)) (method_has s.catalog s.backend s.names place (method_start set)) (filter (is_enabled_method s.backend set) methods)

  unless_off : (b : Bool) (form : Option (List Method)) (enabled : List DeclaredMethod) → IfSome form (λ ms. AreDeclared ms enabled) → IfSome (if b then Some [] else form) (λ ms. AreDeclared ms (if b then [] else enabled))
  unless_off true form enabled h = tt
  unless_off false form enabled h = h

  type_has : (attrs : DeclaredAttrs) (methods : List DeclaredMethod) → IfSome (type_method_form s place set (item_marks s.backend set attrs) methods)
      (λ ms. AreDeclared ms (if (item_marks s.backend set attrs).disable then [] else filter (is_enabled_method s.backend set) methods))
  type_has attrs methods =
      unless_off (item_marks s.backend set attrs).disable (each_method_form s place set methods) (filter (is_enabled_method s.backend set) methods) (each_has methods)

-- ---- at places

pub first_made : {D : Type 0} (P : D → Type 0) (b : Bool) (o : Option D) → IfSome o P → IfSome (if b then o else None) P
first_made P true o h = h
first_made P false o h = tt

pub second_made : {D : Type 0} (P : D → Type 0) (b : Bool) (o : Option D) → IfSome o P → IfSome (if b then None else o) P
second_made P true o h = tt
second_made P false o h = h

pub made_at : {D : Type 0} (it : Interface) (made : ItemMaking D) (place : ItemPlace) (P : Option (Module × Item) → D → Type 0)
    → ((owner : Module) (i : Item) → IfSome (form_of it made place (owner, i)) (P (Some (owner, i)))) → IfSome (form_at it made place) (P (found_at it.modules place))
made_at {D} it made place P makes = of_found (found_at it.modules place) where
  of_found : (o : Option (Module × Item)) → IfSome (option_and_then (form_of it made place) o) (P o)
  of_found None = tt
  of_found (Some (owner, i)) = makes owner i

module _ (it : Interface) (place : ItemPlace) where
  abbrev setting_there : Setting
  setting_there = setting_in it place.«module»

  abbrev set_of : Module → Attrs
  set_of owner = module_marks it.backend it.modules owner

  -- fields

  abbrev FieldsAre : Option (Module × Item) → InputStruct → Type 0
  FieldsAre o def = input_fields def ≡ map (known_as (id_there it.catalog)) (where_any (found_fields it place) o)

  struct_fields_of : (owner : Module) (declared : Struct) (b : Bool)
      → IfSome (if b then None else struct_item_form setting_there place (set_of owner) declared)
      (λ def. input_fields def ≡ map (known_as (id_there it.catalog)) (if b then [] else struct_skeletons setting_there (set_of owner) declared))
  struct_fields_of owner declared true = tt
  struct_fields_of owner declared false = struct_has_fields setting_there place (set_of owner) declared

  fields_of_item : (owner : Module) (i : Item) → IfSome (form_of it struct_made place (owner, i)) (FieldsAre (Some (owner, i)))
  fields_of_item owner (item.Struct declared) = struct_fields_of owner declared declared.output_only
  fields_of_item owner (item.Opaque declared) = tt
  fields_of_item owner (item.Enum declared) = tt
  fields_of_item owner (item.Trait declared) = tt
  fields_of_item owner (item.Function declared) = tt

  pub fields_at : IfSome (form_at it struct_made place) (λ def. input_fields def ≡ map (known_as (id_there it.catalog)) (declared_fields it place))
  fields_at = made_at it struct_made place FieldsAre fields_of_item

  -- methods

  abbrev pub HaveDeclared : List Method → List DeclaredMethod → Type 0
  HaveDeclared ms declared = AllZip (λ m method. HasDeclared it.catalog m (method_signature (it.names place.«module») method)) ms declared

  abbrev MethodsAre : {D : Type 0} → (D → List Method) → Option (Module × Item) → D → Type 0
  MethodsAre methods_in o def = HaveDeclared (methods_in def) (where_any (found_methods it) o)

  methods_of : (owner : Module) (attrs : DeclaredAttrs) (methods : List DeclaredMethod)
      → IfSome (type_method_form setting_there place (set_of owner) (item_marks it.backend (set_of owner) attrs) methods) (λ ms. HaveDeclared ms (enabled_methods_of it owner attrs methods))
  methods_of owner attrs methods = type_has setting_there place (set_of owner) attrs methods

  of_struct : (owner : Module) (i : Item) → IfSome (form_of it struct_made place (owner, i)) (MethodsAre (λ def. def.methods) (Some (owner, i)))
  of_struct owner (item.Struct declared) =
      second_made (MethodsAre (λ def. def.methods) (Some (owner, item.Struct declared))) declared.output_only (struct_item_form setting_there place (set_of owner) declared)
      (of_second (λ ms. HaveDeclared ms (enabled_methods_of it owner declared.attrs declared.methods)) (MethodsAre (λ def. def.methods) (Some (owner, item.Struct declared))) (struct_with it.backend (set_of owner) declared)
      (λ fields methods h. h) _ _ (methods_of owner declared.attrs declared.methods))
  of_struct owner (item.Opaque declared) = tt
  of_struct owner (item.Enum declared) = tt
  of_struct owner (item.Trait declared) = tt
  of_struct owner (item.Function declared) = tt

  of_out_struct : (owner : Module) (i : Item) → IfSome (form_of it out_struct_made place (owner, i)) (MethodsAre (λ def. def.methods) (Some (owner, i)))
  of_out_struct owner (item.Struct declared) =
      first_made (MethodsAre (λ def. def.methods) (Some (owner, item.Struct declared))) declared.output_only (out_struct_item_form setting_there place (set_of owner) declared)
      (of_second (λ ms. HaveDeclared ms (enabled_methods_of it owner declared.attrs declared.methods)) (MethodsAre (λ def. def.methods) (Some (owner, item.Struct declared))) (struct_with it.backend (set_of owner) declared)
      (λ fields methods h. h) _ _ (methods_of owner declared.attrs declared.methods))
  of_out_struct owner (item.Opaque declared) = tt
  of_out_struct owner (item.Enum declared) = tt
  of_out_struct owner (item.Trait declared) = tt
  of_out_struct owner (item.Function declared) = tt

  pub of_one : {A D : Type 0} (Q : A → Type 0) (R : D → Type 0) (f : A → D) → ((a : A) → Q a → R (f a)) → (x : Option A) → IfSome x Q → IfSome (option_map f x) R
  of_one Q R f makes (Some a) h = makes a h
  of_one Q R f makes None h = tt

  of_opaque : (owner : Module) (i : Item) → IfSome (form_of it opaque_made place (owner, i)) (MethodsAre (λ def. def.methods) (Some (owner, i)))
  of_opaque owner (item.Opaque declared) =
      of_one (λ ms. HaveDeclared ms (enabled_methods_of it owner declared.attrs declared.methods)) (MethodsAre (λ def. def.methods) (Some (owner, item.Opaque declared))) (opaque_with it.backend (set_of owner) declared)
      (λ methods h. h) _ (methods_of owner declared.attrs declared.methods)
  of_opaque owner (item.Struct declared) = tt
  of_opaque owner (item.Enum declared) = tt
  of_opaque owner (item.Trait declared) = tt
  of_opaque owner (item.Function declared) = tt

  of_enum : (owner : Module) (i : Item) → IfSome (form_of it enum_made place (owner, i)) (MethodsAre (λ def. def.methods) (Some (owner, i)))
  of_enum owner (item.Enum declared) =
      of_one (λ ms. HaveDeclared ms (enabled_methods_of it owner declared.attrs declared.methods)) (MethodsAre (λ def. def.methods) (Some (owner, item.Enum declared))) (enum_with it.backend (set_of owner) declared)
      (λ methods h. h) _ (methods_of owner declared.attrs declared.methods)
  of_enum owner (item.Struct declared) = tt
  of_enum owner (item.Opaque declared) = tt
  of_enum owner (item.Trait declared) = tt
  of_enum owner (item.Function declared) = tt

  pub struct_methods_at : IfSome (form_at it struct_made place) (λ def. HaveDeclared def.methods (declared_methods it place))
  struct_methods_at = made_at it struct_made place (MethodsAre (λ def. def.methods)) of_struct

  pub out_struct_methods_at : IfSome (form_at it out_struct_made place) (λ def. HaveDeclared def.methods (declared_methods it place))
  out_struct_methods_at = made_at it out_struct_made place (MethodsAre (λ def. def.methods)) of_out_struct

  pub opaque_methods_at : IfSome (form_at it opaque_made place) (λ def. HaveDeclared def.methods (declared_methods it place))
  opaque_methods_at = made_at it opaque_made place (MethodsAre (λ def. def.methods)) of_opaque

  pub enum_methods_at : IfSome (form_at it enum_made place) (λ def. HaveDeclared def.methods (declared_methods it place))
  enum_methods_at = made_at it enum_made place (MethodsAre (λ def. def.methods)) of_enum

  -- functions

  abbrev FunctionIs : Option (Module × Item) → Method → Type 0
  FunctionIs o m = HasFunction it.catalog m (option_and_then (found_function it place) o)

  of_function : (owner : Module) (i : Item) → IfSome (form_of it function_made place (owner, i)) (FunctionIs (Some (owner, i)))
  of_function owner (item.Function declared) = function_has it.catalog it.backend (it.names place.«module») (item_start (set_of owner)) declared
  of_function owner (item.Struct declared) = tt
  of_function owner (item.Opaque declared) = tt
  of_function owner (item.Enum declared) = tt
  of_function owner (item.Trait declared) = tt

  pub function_at : IfSome (form_at it function_made place) (λ m. HasFunction it.catalog m (declared_function it place))
  function_at = made_at it function_made place FunctionIs of_function
