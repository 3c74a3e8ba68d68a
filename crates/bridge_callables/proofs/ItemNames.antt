-- What items are lowered to has the declared names, and so have its methods.
use Rattle.std.proofs.Common.{◌≡◌, ℕ, List, [], Bool, true, false, Option, Some, if◌then◌else◌, refl}
use Rattle.std.specs.Prelude.{IfSome}
use Rattle.std.specs.List.{AllZip, filter}
use Rattle.bridge_ast.specs.declared.place.ItemPlace.{ItemPlace}
use Rattle.bridge_decl.specs.Names.{item_name}
use Rattle.bridge_decl.specs.declared.attrs.Attrs.{Attrs as DeclaredAttrs}
use Rattle.bridge_decl.specs.declared.methods.Method.{Method as DeclaredMethod}
use Rattle.bridge_decl.specs.declared.modules.Item.{Item}
use Rattle.bridge_decl.specs.declared.modules.Item.TheVariants as item
use Rattle.bridge_decl.specs.declared.modules.Module.{Module}
use Rattle.hir_attrs.specs.declared.attrs.Attrs.{Attrs}
use Rattle.hir_definitions.specs.declared.methods.Method.{Method}
use Rattle.hir_items.specs.Enums.{enum_with}
use Rattle.hir_items.specs.Inheriting.{item_marks, item_start, method_start}
use Rattle.hir_items.specs.Opaques.{opaque_with}
use Rattle.hir_items.specs.Setting.{Setting}
use Rattle.hir_items.specs.Structs.{out_struct_item_form, struct_item_form, struct_with}
use Rattle.hir_items.specs.TypeMethods.{each_method_form, is_enabled_method, one_method_form, type_method_form}
use Rattle.hir_lowering.specs.Interface.{Interface, setting_in}
use Rattle.hir_lowering.specs.Kinds.{enum_made, function_made, opaque_made, out_struct_made, struct_made}
use Rattle.hir_lowering.specs.Placing.{form_at, form_of, found_at}
use Rattle.hir_mentions.specs.Mentions.{where_any}
use Rattle.hir_modules.specs.ModuleMarks.{module_marks}
use Rattle.hir_readings.specs.Declared.{enabled_methods_of, found_methods}
use Rattle.hir_readings.proofs.ItemLemmas.{first_made, made_at, of_one, of_second, second_made}
use Rattle.hir_readings.proofs.JoinLemmas.{all_zipped}
use Rattle.bridge_callables.proofs.MethodNames.{IsMarkedFunction, IsNamedMethod, function_named, method_named}

abbrev pub AreNamedMethods : List Method → List DeclaredMethod → Type 0
AreNamedMethods ms declared = AllZip IsNamedMethod ms declared

-- a definition of this name and these methods has the declared names
pub record IsNamedType (it : Interface) (o : Option (Module × Item)) (name : List ℕ) (methods : List Method) : Type 0 where
  pub name_is : name ≡ where_any (λ found. item_name found.1) o
  pub methods_are : AreNamedMethods methods (where_any (found_methods it) o)

-- ---- methods

module _ (s : Setting) (place : ItemPlace) (set : Attrs) where
  each_named : (methods : List DeclaredMethod) → IfSome (each_method_form s place set methods) (λ ms. AreNamedMethods ms (filter (is_enabled_method s.backend set) methods))
  each_named methods =
      all_zipped (one_method_form s place set) IsNamedMethod (method_named s.catalog s.backend s.names place (method_start set)) (filter (is_enabled_method s.backend set) methods)

  unless_off : (b : Bool) (form : Option (List Method)) (enabled : List DeclaredMethod) → IfSome form (λ ms. AreNamedMethods ms enabled)
      → IfSome (if b then Some [] else form) (λ ms. AreNamedMethods ms (if b then [] else enabled))
  unless_off true form enabled h = tt
  unless_off false form enabled h = h

  methods_named : (attrs : DeclaredAttrs) (methods : List DeclaredMethod) → IfSome (type_method_form s place set (item_marks s.backend set attrs) methods)
      (λ ms. AreNamedMethods ms (if (item_marks s.backend set attrs).disable then [] else filter (is_enabled_method s.backend set) methods))
  methods_named attrs methods =
      unless_off (item_marks s.backend set attrs).disable (each_method_form s place set methods) (filter (is_enabled_method s.backend set) methods) (each_named methods)

-- ---- at places

module _ (it : Interface) (place : ItemPlace) where
  abbrev setting_there : Setting
  setting_there = setting_in it place.«module»

  abbrev set_of : Module → Attrs
  set_of owner = module_marks it.backend it.modules owner

  methods_of : (owner : Module) (attrs : DeclaredAttrs) (methods : List DeclaredMethod)
      → IfSome (type_method_form setting_there place (set_of owner) (item_marks it.backend (set_of owner) attrs) methods) (λ ms. AreNamedMethods ms (enabled_methods_of it owner attrs methods))
  methods_of owner attrs methods = methods_named setting_there place (set_of owner) attrs methods

  of_struct : (owner : Module) (i : Item) → IfSome (form_of it struct_made place (owner, i)) (λ def. IsNamedType it (Some (owner, i)) def.name.0 def.methods)
  of_struct owner (item.Struct declared) =
      second_made (λ def. IsNamedType it (Some (owner, item.Struct declared)) def.name.0 def.methods) declared.output_only (struct_item_form setting_there place (set_of owner) declared)
      (of_second (λ ms. AreNamedMethods ms (enabled_methods_of it owner declared.attrs declared.methods)) (λ def. IsNamedType it (Some (owner, item.Struct declared)) def.name.0 def.methods)
      (struct_with it.backend (set_of owner) declared) (λ fields methods h. record { name_is = refl; methods_are = h }) _ _ (methods_of owner declared.attrs declared.methods))
  of_struct owner (item.Opaque declared) = tt
  of_struct owner (item.Enum declared) = tt
  of_struct owner (item.Trait declared) = tt
  of_struct owner (item.Function declared) = tt

  of_out_struct : (owner : Module) (i : Item) → IfSome (form_of it out_struct_made place (owner, i)) (λ def. IsNamedType it (Some (owner, i)) def.name.0 def.methods)
  of_out_struct owner (item.Struct declared) =
      first_made (λ def. IsNamedType it (Some (owner, item.Struct declared)) def.name.0 def.methods) declared.output_only (out_struct_item_form setting_there place (set_of owner) declared)
      (of_second (λ ms. AreNamedMethods ms (enabled_methods_of it owner declared.attrs declared.methods)) (λ def. IsNamedType it (Some (owner, item.Struct declared)) def.name.0 def.methods)
      (struct_with it.backend (set_of owner) declared) (λ fields methods h. record { name_is = refl; methods_are = h }) _ _ (methods_of owner declared.attrs declared.methods))
  of_out_struct owner (item.Opaque declared) = tt
  of_out_struct owner (item.Enum declared) = tt
  of_out_struct owner (item.Trait declared) = tt
  of_out_struct owner (item.Function declared) = tt

  of_opaque : (owner : Module) (i : Item) → IfSome (form_of it opaque_made place (owner, i)) (λ def. IsNamedType it (Some (owner, i)) def.name.0 def.methods)
  of_opaque owner (item.Opaque declared) =
      of_one it place (λ ms. AreNamedMethods ms (enabled_methods_of it owner declared.attrs declared.methods)) (λ def. IsNamedType it (Some (owner, item.Opaque declared)) def.name.0 def.methods)
      (opaque_with it.backend (set_of owner) declared) (λ methods h. record { name_is = refl; methods_are = h }) _ (methods_of owner declared.attrs declared.methods)
  of_opaque owner (item.Struct declared) = tt
  of_opaque owner (item.Enum declared) = tt
  of_opaque owner (item.Trait declared) = tt
  of_opaque owner (item.Function declared) = tt

  of_enum : (owner : Module) (i : Item) → IfSome (form_of it enum_made place (owner, i)) (λ def. IsNamedType it (Some (owner, i)) def.name.0 def.methods)
  of_enum owner (item.Enum declared) =
      of_one it place (λ ms. AreNamedMethods ms (enabled_methods_of it owner declared.attrs declared.methods)) (λ def. IsNamedType it (Some (owner, item.Enum declared)) def.name.0 def.methods)
      (enum_with it.backend (set_of owner) declared) (λ methods h. record { name_is = refl; methods_are = h }) _ (methods_of owner declared.attrs declared.methods)
  of_enum owner (item.Struct declared) = tt
  of_enum owner (item.Opaque declared) = tt
  of_enum owner (item.Trait declared) = tt
  of_enum owner (item.Function declared) = tt

  -- of what is made at the place

  abbrev pub IsNamedThere : List ℕ → List Method → Type 0
  IsNamedThere name methods = IsNamedType it (found_at it.modules place) name methods

  pub struct_named_at : IfSome (form_at it struct_made place) (λ def. IsNamedThere def.name.0 def.methods)
  struct_named_at = made_at it struct_made place (λ o def. IsNamedType it o def.name.0 def.methods) of_struct

  pub out_struct_named_at : IfSome (form_at it out_struct_made place) (λ def. IsNamedThere def.name.0 def.methods)
  out_struct_named_at = made_at it out_struct_made place (λ o def. IsNamedType it o def.name.0 def.methods) of_out_struct

  pub opaque_named_at : IfSome (form_at it opaque_made place) (λ def. IsNamedThere def.name.0 def.methods)
  opaque_named_at = made_at it opaque_made place (λ o def. IsNamedType it o def.name.0 def.methods) of_opaque

  pub enum_named_at : IfSome (form_at it enum_made place) (λ def. IsNamedThere def.name.0 def.methods)
  enum_named_at = made_at it enum_made place (λ o def. IsNamedType it o def.name.0 def.methods) of_enum

  -- ---- functions

  -- it is the function that was found, and has its marks and its names
  abbrev pub IsFoundFunction : Option (Module × Item) → Method → Type 0
  IsFoundFunction (Some (owner, item.Function declared)) m = IsMarkedFunction m (item_marks it.backend (set_of owner) declared.attrs) declared
  IsFoundFunction _ m = ⊥

  of_function : (owner : Module) (i : Item) → IfSome (form_of it function_made place (owner, i)) (IsFoundFunction (Some (owner, i)))
  of_function owner (item.Function declared) = function_named it.catalog it.backend (it.names place.«module») (item_start (set_of owner)) declared
  of_function owner (item.Struct declared) = tt
  of_function owner (item.Opaque declared) = tt
  of_function owner (item.Enum declared) = tt
  of_function owner (item.Trait declared) = tt

  pub function_named_at : IfSome (form_at it function_made place) (IsFoundFunction (found_at it.modules place))
  function_named_at = made_at it function_made place IsFoundFunction of_function
