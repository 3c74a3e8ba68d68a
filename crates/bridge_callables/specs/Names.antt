-- The names along a path into an input, as declarations have them. In the example of the crate's head the leaf of `open` has the path 0, 0,
-- along which stand `mark` and `page`.
use Rattle.std.specs.Prelude.{ℕ, List, [], ◌∷◌, ◌++◌, map, Option, slice_get, if◌then◌else◌}
use Rattle.bridge_ast.specs.declared.place.ItemPlace.{ItemPlace}
use Rattle.bridge_decl.specs.declared.methods.Param.{Param}
use Rattle.bridge_decl.specs.declared.methods.SelfParam.{SelfParam}
use Rattle.bridge_decl.specs.declared.modules.Item.{Item}
use Rattle.bridge_decl.specs.declared.modules.Item.TheVariants as item
use Rattle.bridge_decl.specs.declared.modules.Module.{Module}
use Rattle.bridge_decl.specs.declared.structs.Struct.{Struct}
use Rattle.bridge_report.specs.InContext.{receiver_name}
use Rattle.hir_items.specs.Inheriting.{item_marks}
use Rattle.hir_lowering.specs.Interface.{Interface}
use Rattle.hir_lowering.specs.Placing.{found_at}
use Rattle.hir_mentions.specs.Mentions.{where_any}
use Rattle.hir_modules.specs.ModuleMarks.{module_marks}
use Rattle.hir_readings.specs.Declared.{declared_fields}
use Rattle.hir_skeleton.specs.Skeletons.{Skeleton, Nothing, Carrier, Struct as StructWith}

-- ---- inputs

-- `this` for the receiver, where there is one, and then the names of the parameters
abbrev pub declared_input_names : Option SelfParam → List Param → List (List ℕ)
declared_input_names receiver params = where_any (λ own. receiver_name ∷ []) receiver ++ map (λ param. param.name) params

-- ---- fields

-- of a struct in that module: a disabled one has none, as one that only comes out
abbrev pub struct_field_names : Interface → Module → Struct → List (List ℕ)
struct_field_names it owner declared =
    if (item_marks it.backend (module_marks it.backend it.modules owner) declared.attrs).disable then [] else map (λ field. field.name) declared.fields

abbrev pub found_field_names : Interface → Module × Item → List (List ℕ)
found_field_names it (owner, item.Struct declared) = if declared.output_only then [] else struct_field_names it owner declared
found_field_names it (owner, item.Opaque declared) = []
found_field_names it (owner, item.Enum declared) = []
found_field_names it (owner, item.Trait declared) = []
found_field_names it (owner, item.Function declared) = []

-- the names of the fields of the struct at a place
abbrev pub declared_field_names : Interface → ItemPlace → List (List ℕ)
declared_field_names it place = where_any (found_field_names it) (found_at it.modules place)

-- ---- paths

-- the name of that number, where there is one
abbrev pub name_of_number : List (List ℕ) → ℕ → List (List ℕ)
name_of_number names i = where_any (λ name. name ∷ []) (slice_get names i)

-- the names along a path from inside an input, as far as it leads
abbrev pub declared_names_inside : Interface → List ℕ → Skeleton ItemPlace → List (List ℕ)
declared_names_inside it [] s = []
declared_names_inside it (i ∷ rest) Nothing = []
declared_names_inside it (i ∷ rest) (Carrier lifetimes) = []
declared_names_inside it (i ∷ rest) (StructWith place args) =
    name_of_number (declared_field_names it place) i ++ where_any (declared_names_inside it rest) (slice_get (declared_fields it place) i)

-- the names along a path that begins with the number of an input, where inputs have these names
abbrev pub declared_path_names : Interface → List (List ℕ) → List (Skeleton ItemPlace) → List ℕ → List (List ℕ)
declared_path_names it names inputs [] = []
declared_path_names it names inputs (i ∷ rest) =
    name_of_number names i ++ where_any (declared_names_inside it rest) (slice_get inputs i)
