-- Which structs declared structs hold: by value, in options or by reference. In the example of the crate's head `Pair` holds `Line`
-- and `Chain`. The elements of a slice aren't held, and a disabled struct holds nothing.
use Rattle.std.specs.Prelude.{◌≡◌, List, [], ◌∷◌, false, Option, Some, None}
use Rattle.std.specs.List.{Contains}
use Rattle.bridge_ast.specs.declared.place.ItemPlace.{ItemPlace}
use Rattle.bridge_decl.specs.declared.modules.Item.{Item}
use Rattle.bridge_decl.specs.declared.modules.Item.TheVariants as item
use Rattle.bridge_decl.specs.declared.modules.Module.{Module}
use Rattle.bridge_decl.specs.declared.structs.Field.{Field}
use Rattle.bridge_decl.specs.declared.structs.Struct.{Struct}
use Rattle.bridge_decl.specs.declared.types.TypeName.{TypeName, fold-TypeName}
use Rattle.bridge_decl.specs.declared.types.TypeName.TheOpen.{TypeName-F}
use Rattle.hir_items.specs.Inheriting.{item_marks}
use Rattle.hir_lowering.specs.Interface.{Interface}
use Rattle.hir_lowering.specs.Placing.{found_at}
use Rattle.hir_modules.specs.ModuleMarks.{module_marks}
use Rattle.hir_number.specs.Naming.{Naming}

-- the place of what is named, where that is a struct or an out-struct
abbrev pub struct_named : Option (Item × ItemPlace) → List ItemPlace
struct_named None = []
struct_named (Some (item.Struct it, place)) = place ∷ []
struct_named (Some (item.Opaque it, place)) = []
struct_named (Some (item.Enum it, place)) = []
struct_named (Some (item.Trait it, place)) = []
struct_named (Some (item.Function it, place)) = []

-- those that one level of a type holds, with those that the types in it hold
abbrev pub level_structs : Naming → TypeName-F (List ItemPlace) → List ItemPlace
level_structs names (TypeName-F.Named p) = struct_named (names.type_at p.segments)
level_structs names (TypeName-F.SelfType p) = struct_named (names.type_at p.segments)
level_structs names (TypeName-F.Reference l m t) = t
level_structs names (TypeName-F.Option t d) = t
level_structs names _ = []

-- the structs that a type holds, by what its paths name: `DiplomatOption<Chain>` holds `Chain`
abbrev pub structs_held : Naming → TypeName → List ItemPlace
structs_held names = fold-TypeName (List ItemPlace) (level_structs names)

-- at the place stands a struct or an out-struct, in that module, and the backend doesn't disable it
pub record IsEnabledStruct (it : Interface) (place : ItemPlace) (owner : Module) (declared : Struct) : Type 0 where
  pub stands : found_at it.modules place ≡ Some (owner, item.Struct declared)
  pub enabled : (item_marks it.backend (module_marks it.backend it.modules owner) declared.attrs).disable ≡ false

-- the struct at a place is enabled, and the type of one of its fields holds the struct at the other
pub record HoldsStruct (it : Interface) (outer inner : ItemPlace) : Type 0 where
  pub owner : Module
  pub declared : Struct
  pub is : IsEnabledStruct it outer owner declared
  pub field : Field
  pub has : Contains declared.fields field
  pub holds : Contains (structs_held (it.names outer.«module») field.ty) inner
