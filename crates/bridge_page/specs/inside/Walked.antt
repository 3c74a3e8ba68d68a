-- The way along a path, as it is walked: from struct to struct, by their ids alone.
use Rattle.std.specs.Prelude.{ℕ, List, [], ◌∷◌, ◌++◌, Option, Some, None, option_and_then, slice_get}
use Rattle.hir_context.specs.Lookups.{InputStruct}
use Rattle.hir_context.specs.declared.parts.Definitions.{Definitions}
use Rattle.hir_ids.specs.declared.ids.TypeId.{TypeId}
use Rattle.hir_ids.specs.declared.ids.TypeId.TheVariants as type
use Rattle.hir_mentions.specs.Mentions.{where_any}
use Rattle.hir_skeleton.specs.Lowered.{input_fields}
use Rattle.hir_skeleton.specs.Skeletons.{Skeleton, Nothing, Carrier, Struct}

-- the number of a struct that may stand in inputs
abbrev pub input_number : TypeId → Option ℕ
input_number (type.Struct id) = Some id
input_number _ = None

-- that of the struct that this is
abbrev pub number_of_struct : Skeleton TypeId → Option ℕ
number_of_struct Nothing = None
number_of_struct (Carrier lifetimes) = None
number_of_struct (Struct key args) = input_number key

-- the name of a field of a struct
abbrev pub name_of_field : ℕ → InputStruct → List (List ℕ)
name_of_field i def = where_any (λ field. field.name ∷ []) (slice_get def.fields i)

-- the struct that the field is
abbrev pub field_struct_id : ℕ → InputStruct → Option ℕ
field_struct_id i def = option_and_then number_of_struct (slice_get (input_fields def) i)

-- the struct of an id, where there is one
abbrev pub struct_at : Definitions → Option ℕ → Option InputStruct
struct_at defs inside = option_and_then (slice_get defs.structs.defs) inside

-- the names along a path from inside a struct
abbrev pub names_from : Definitions → List ℕ → Option ℕ → List (List ℕ)
names_from defs [] inside = []
names_from defs (i ∷ rest) inside =
    where_any (name_of_field i) (struct_at defs inside) ++ names_from defs rest (option_and_then (field_struct_id i) (struct_at defs inside))
