-- Structs that contain structs, as a graph. The example throughout is one out-struct and two structs:
-- `Found { pair: Pair }`, `Pair { left: Line, right: Option<Line> }` and `Line { color: Color }`.
use Rattle.std.specs.Prelude.{ℕ, ◌+◌, ◌-◌, List, ◌++◌, length, map, Option, Some, None, nat_lt, if◌then◌else◌}
use Rattle.std.specs.List.{filter_map}
use Rattle.hir_ids.specs.declared.ids.TypeId.{TypeId}
use Rattle.hir_ids.specs.declared.ids.TypeId.TheVariants as type
use Rattle.hir_definitions.specs.declared.definitions.StructDef.{StructDef}
use Rattle.hir_mentions.specs.Containing.{contained_in}

-- the number of a struct among all, out-structs before the others: `Found` has 0, `Pair` 1 and `Line` 2. There is none where
-- there is no such struct
abbrev pub struct_number : ℕ → ℕ → TypeId → Option ℕ
struct_number out_structs structs (type.OutStruct place) = if nat_lt place out_structs then Some place else None
struct_number out_structs structs (type.Struct place) = if nat_lt place structs then Some (out_structs + place) else None
struct_number out_structs structs (type.Opaque place) = None
struct_number out_structs structs (type.Enum place) = None

-- the struct of a number: that of 2 is the struct at place 1, which is `Line`
abbrev pub struct_of_number : ℕ → ℕ → TypeId
struct_of_number out_structs number = if nat_lt number out_structs then type.OutStruct number else type.Struct (number - out_structs)

-- the numbers of these: what `Pair` contains is 2, 2
abbrev pub struct_numbers : ℕ → ℕ → List TypeId → List ℕ
struct_numbers out_structs structs ids = filter_map (struct_number out_structs structs) ids

-- what each of these structs contains, over what a path to a struct names: for the two structs `Line`, `Line`; nothing
abbrev pub each_contained : {P C O I S T : Type 0} → (S → TypeId) → List (StructDef P C O I S T) → List (List TypeId)
each_contained struct defs = map (λ def. contained_in struct def.fields) defs

-- the graph of all: for each struct the numbers of those that it contains, of which the two kinds name these: 1; 2, 2; none
abbrev pub containment : List (List TypeId) → List (List TypeId) → List (List ℕ)
containment out_structs structs = map (struct_numbers (length out_structs) (length structs)) (out_structs ++ structs)
