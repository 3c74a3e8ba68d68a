-- Each definition of an item fits, and has as many lifetimes as the item declares.
use Rattle.std.proofs.Common.{◌≡◌, ◌<◌, ℕ, List, Some, length, map, refl, subst}
use Rattle.std.specs.Prelude.{IfSome}
use Rattle.std.specs.List.{All}
use Rattle.bridge_ast.specs.Types.{item_of}
use Rattle.bridge_ast.specs.declared.place.ItemPlace.{ItemPlace}
use Rattle.bridge_decl.specs.declared.enums.Enum.{Enum}
use Rattle.bridge_decl.specs.declared.functions.Function.{Function}
use Rattle.bridge_decl.specs.declared.modules.Item.{Item}
use Rattle.bridge_decl.specs.declared.modules.Item.TheVariants as item
use Rattle.bridge_decl.specs.declared.structs.OpaqueType.{OpaqueType}
use Rattle.bridge_decl.specs.declared.structs.Struct.{Struct}
use Rattle.bridge_decl.specs.declared.traits.Trait.{Trait}
use Rattle.bridge_places.specs.Places.{places_of}
use Rattle.bridge_places.specs.declared.kinds.Kind.{Kind}
use Rattle.hir_attrs.specs.Reading.{marks_of}
use Rattle.hir_attrs.specs.declared.attrs.Attrs.{Attrs}
use Rattle.hir_fields.specs.Fields.{fields_form, out_fields_form}
use Rattle.hir_fitting.specs.Parts.{DefinitionFits, parts_of_enum, parts_of_function, parts_of_opaque, parts_of_struct, parts_of_trait}
use Rattle.hir_fitting.specs.declared.census.Census.{Census}
use Rattle.hir_items.specs.Enums.{enum_item_form}
use Rattle.hir_items.specs.FreeFunctions.{function_item_form}
use Rattle.hir_items.specs.Inheriting.{item_marks, item_start}
use Rattle.hir_items.specs.Opaques.{opaque_item_form, opaque_with}
use Rattle.hir_items.specs.Placing.{where_enabled}
use Rattle.hir_items.specs.Setting.{Setting}
use Rattle.hir_items.specs.Structs.{out_struct_item_form, struct_item_form, struct_with, type_fields_form}
use Rattle.hir_items.specs.TypeMethods.{type_method_form}
use Rattle.hir_mentions.specs.Callbacks.{field_mentions, output_mentions}
use Rattle.hir_modules.specs.ModuleMarks.{module_marks}
use Rattle.hir_traits.specs.Traits.{trait_form, trait_methods_form, trait_with}
use Rattle.hir_fitting_forms.specs.DeclaredCensus.{lifetimes_found, lifetimes_of_kind}
use Rattle.hir_fitting_forms.specs.Naming.{NamesFit}
use Rattle.hir_fitting_forms.proofs.Lists.{given_all}
use Rattle.hir_lowering.specs.Interface.{Interface, setting_in}
use Rattle.hir_lowering.specs.Kinds.{ItemMaking, enum_made, function_made, opaque_made, out_struct_made, struct_made, trait_made}
use Rattle.hir_lowering.specs.Placing.{each_form, form_at}
use Rattle.hir_lower.proofs.MadeLemmas.{counted, made_in_first, made_in_second, made_of_both, made_of_one, made_there}

-- what is made of all items of a kind is good, where what is made of each is
pub each_good :
    {D : Type 0} (it : Interface) (made : ItemMaking D) (P : D → Type 0)
    → ((n : ℕ) → n < length it.modules → (place : ItemPlace) (set : Attrs) (i : Item) → IfSome (made (setting_in it n) place set i) P)
    → (places : List ItemPlace) (ds : List D) → each_form it made places ≡ Some ds → All P ds
each_good it made P good places ds is =
    subst (λ o. IfSome o (All P)) is
    (given_all P (form_at it made)
    (λ place. made_there it made place (λ _. P) (λ m i within. good place.«module» within place (module_marks it.backend it.modules m) i)) places)

-- and there are as many lifetimes as are declared
pub each_counted :
    {D : Type 0} (it : Interface) (made : ItemMaking D) (count : D → ℕ)
    → ((n : ℕ) (place : ItemPlace) (set : Attrs) (i : Item) → IfSome (made (setting_in it n) place set i) (λ d. count d ≡ lifetimes_found (Some i)))
    → (k : Kind) (ds : List D) → each_form it made (places_of it.modules k) ≡ Some ds → map count ds ≡ lifetimes_of_kind it.modules k
each_counted it made count right k ds is =
    counted (form_at it made) count (λ place. lifetimes_found (item_of it.modules place))
    (λ place. made_there it made place (λ i d. count d ≡ lifetimes_found i) (λ m i within. right place.«module» place (module_marks it.backend it.modules m) i))
    (places_of it.modules k) ds is

-- ---- the lifetimes of each kind

pub out_struct_counted : (s : Setting) (place : ItemPlace) (set : Attrs) (i : Item) → IfSome (out_struct_made s place set i) (λ d. d.lifetimes.count ≡ lifetimes_found (Some i))
out_struct_counted s place set (item.Struct i) =
    let marks = item_marks s.backend set i.attrs in
    made_in_first (λ d. d.lifetimes.count ≡ length i.lifetimes.nodes) i.output_only (out_struct_item_form s place set i)
    (made_of_both (λ d. d.lifetimes.count ≡ length i.lifetimes.nodes) (struct_with s.backend set i) (λ fields methods. refl)
    (type_fields_form marks (out_fields_form s.backend s.catalog s.names i)) (type_method_form s place set marks i.methods))
out_struct_counted s place set (item.Opaque i) = tt
out_struct_counted s place set (item.Enum i) = tt
out_struct_counted s place set (item.Trait i) = tt
out_struct_counted s place set (item.Function i) = tt

pub struct_counted : (s : Setting) (place : ItemPlace) (set : Attrs) (i : Item) → IfSome (struct_made s place set i) (λ d. d.lifetimes.count ≡ lifetimes_found (Some i))
struct_counted s place set (item.Struct i) =
    let marks = item_marks s.backend set i.attrs in
    made_in_second (λ d. d.lifetimes.count ≡ length i.lifetimes.nodes) i.output_only (struct_item_form s place set i)
    (made_of_both (λ d. d.lifetimes.count ≡ length i.lifetimes.nodes) (struct_with s.backend set i) (λ fields methods. refl)
    (type_fields_form marks (fields_form s.backend s.catalog s.names i)) (type_method_form s place set marks i.methods))
struct_counted s place set (item.Opaque i) = tt
struct_counted s place set (item.Enum i) = tt
struct_counted s place set (item.Trait i) = tt
struct_counted s place set (item.Function i) = tt

pub opaque_counted : (s : Setting) (place : ItemPlace) (set : Attrs) (i : Item) → IfSome (opaque_made s place set i) (λ d. d.lifetimes.count ≡ lifetimes_found (Some i))
opaque_counted s place set (item.Opaque i) =
    made_of_one (λ d. d.lifetimes.count ≡ length i.lifetimes.nodes) (opaque_with s.backend set i) (λ methods. refl)
    (type_method_form s place set (item_marks s.backend set i.attrs) i.methods)
opaque_counted s place set (item.Struct i) = tt
opaque_counted s place set (item.Enum i) = tt
opaque_counted s place set (item.Trait i) = tt
opaque_counted s place set (item.Function i) = tt

pub trait_counted : (s : Setting) (place : ItemPlace) (set : Attrs) (i : Item) → IfSome (trait_made s place set i) (λ d. d.lifetimes.count ≡ lifetimes_found (Some i))
trait_counted s place set (item.Trait i) =
    let attrs = marks_of s.backend i.attrs (item_start set) in
    made_of_one (λ d. d.lifetimes.count ≡ length i.lifetimes.nodes) (trait_with s.backend attrs i) (λ methods. refl)
    (trait_methods_form s.backend s.catalog s.names place attrs (where_enabled attrs i.methods))
trait_counted s place set (item.Struct i) = tt
trait_counted s place set (item.Opaque i) = tt
trait_counted s place set (item.Enum i) = tt
trait_counted s place set (item.Function i) = tt

-- ---- each kind fits

module _ (census : Census) where
  pub out_struct_fits :
      ((s : Setting) (place : ItemPlace) (set : Attrs) (i : Struct) → NamesFit census s.catalog s.names → IfSome (out_struct_item_form s place set i) (λ d. DefinitionFits census (parts_of_struct output_mentions d)))
      → (s : Setting) → NamesFit census s.catalog s.names → (place : ItemPlace) (set : Attrs) (i : Item) → IfSome (out_struct_made s place set i) (λ d. DefinitionFits census (parts_of_struct output_mentions d))
  out_struct_fits law s fit place set (item.Struct i) = made_in_first (λ d. DefinitionFits census (parts_of_struct output_mentions d)) i.output_only (out_struct_item_form s place set i) (law s place set i fit)
  out_struct_fits law s fit place set (item.Opaque i) = tt
  out_struct_fits law s fit place set (item.Enum i) = tt
  out_struct_fits law s fit place set (item.Trait i) = tt
  out_struct_fits law s fit place set (item.Function i) = tt

  pub struct_fits :
      ((s : Setting) (place : ItemPlace) (set : Attrs) (i : Struct) → NamesFit census s.catalog s.names → IfSome (struct_item_form s place set i) (λ d. DefinitionFits census (parts_of_struct field_mentions d)))
      → (s : Setting) → NamesFit census s.catalog s.names → (place : ItemPlace) (set : Attrs) (i : Item) → IfSome (struct_made s place set i) (λ d. DefinitionFits census (parts_of_struct field_mentions d))
  struct_fits law s fit place set (item.Struct i) = made_in_second (λ d. DefinitionFits census (parts_of_struct field_mentions d)) i.output_only (struct_item_form s place set i) (law s place set i fit)
  struct_fits law s fit place set (item.Opaque i) = tt
  struct_fits law s fit place set (item.Enum i) = tt
  struct_fits law s fit place set (item.Trait i) = tt
  struct_fits law s fit place set (item.Function i) = tt

  pub opaque_fits :
      ((s : Setting) (place : ItemPlace) (set : Attrs) (i : OpaqueType) → NamesFit census s.catalog s.names → IfSome (opaque_item_form s place set i) (λ d. DefinitionFits census (parts_of_opaque d)))
      → (s : Setting) → NamesFit census s.catalog s.names → (place : ItemPlace) (set : Attrs) (i : Item) → IfSome (opaque_made s place set i) (λ d. DefinitionFits census (parts_of_opaque d))
  opaque_fits law s fit place set (item.Opaque i) = law s place set i fit
  opaque_fits law s fit place set (item.Struct i) = tt
  opaque_fits law s fit place set (item.Enum i) = tt
  opaque_fits law s fit place set (item.Trait i) = tt
  opaque_fits law s fit place set (item.Function i) = tt

  pub enum_fits :
      ((s : Setting) (place : ItemPlace) (set : Attrs) (i : Enum) → NamesFit census s.catalog s.names → IfSome (enum_item_form s place set i) (λ d. DefinitionFits census (parts_of_enum d)))
      → (s : Setting) → NamesFit census s.catalog s.names → (place : ItemPlace) (set : Attrs) (i : Item) → IfSome (enum_made s place set i) (λ d. DefinitionFits census (parts_of_enum d))
  enum_fits law s fit place set (item.Enum i) = law s place set i fit
  enum_fits law s fit place set (item.Struct i) = tt
  enum_fits law s fit place set (item.Opaque i) = tt
  enum_fits law s fit place set (item.Trait i) = tt
  enum_fits law s fit place set (item.Function i) = tt

  pub trait_fits :
      ((s : Setting) (place : ItemPlace) (set : Attrs) (i : Trait) → NamesFit census s.catalog s.names
      → IfSome (trait_form s.backend s.catalog s.names place (item_start set) i) (λ d. DefinitionFits census (parts_of_trait d)))
      → (s : Setting) → NamesFit census s.catalog s.names → (place : ItemPlace) (set : Attrs) (i : Item) → IfSome (trait_made s place set i) (λ d. DefinitionFits census (parts_of_trait d))
  trait_fits law s fit place set (item.Trait i) = law s place set i fit
  trait_fits law s fit place set (item.Struct i) = tt
  trait_fits law s fit place set (item.Opaque i) = tt
  trait_fits law s fit place set (item.Enum i) = tt
  trait_fits law s fit place set (item.Function i) = tt

  pub function_fits :
      ((s : Setting) (set : Attrs) (i : Function) → NamesFit census s.catalog s.names → IfSome (function_item_form s set i) (λ d. DefinitionFits census (parts_of_function d)))
      → (s : Setting) → NamesFit census s.catalog s.names → (place : ItemPlace) (set : Attrs) (i : Item) → IfSome (function_made s place set i) (λ d. DefinitionFits census (parts_of_function d))
  function_fits law s fit place set (item.Function i) = law s set i fit
  function_fits law s fit place set (item.Struct i) = tt
  function_fits law s fit place set (item.Opaque i) = tt
  function_fits law s fit place set (item.Enum i) = tt
  function_fits law s fit place set (item.Trait i) = tt
