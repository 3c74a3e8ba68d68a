-- Leaves as sums over a graph of structs: each has so many leaves of its own, and an edge leads from it to each struct that stands in a field.
use Rattle.std.specs.Prelude.{ℕ, List, [], ◌∷◌, Bool, true, false, cond, map, nat_lt, sum_by}
use Rattle.std.specs.List.{flat_map}
use Rattle.hir_context.specs.Lookups.{InputStruct}
use Rattle.hir_ids.specs.declared.ids.TypeId.{TypeId}
use Rattle.hir_ids.specs.declared.ids.TypeId.TheVariants as type
use Rattle.hir_skeleton.specs.Lowered.{input_fields}
use Rattle.hir_skeleton.specs.Skeletons.{Skeleton, Nothing, Carrier, Struct}

-- whether it is a leaf itself
abbrev pub is_leaf : {K : Type 0} → Skeleton K → Bool
is_leaf Nothing = false
is_leaf (Carrier lifetimes) = true
is_leaf (Struct key args) = false

abbrev pub leaves_here : {K : Type 0} → Skeleton K → ℕ
leaves_here s = cond (is_leaf s) 1 0

-- how many of several are
abbrev pub own_leaves : {K : Type 0} → List (Skeleton K) → ℕ
own_leaves fields = sum_by leaves_here fields

-- the number of a struct, where it is one of so many
abbrev pub struct_number_below : ℕ → TypeId → List ℕ
struct_number_below count (type.Struct number) = cond (nat_lt number count) (number ∷ []) []
struct_number_below count _ = []

-- the struct that it is, by its number
abbrev pub struct_here : ℕ → Skeleton TypeId → List ℕ
struct_here count Nothing = []
struct_here count (Carrier lifetimes) = []
struct_here count (Struct id args) = struct_number_below count id

-- those among several, in order
abbrev pub structs_among : ℕ → List (Skeleton TypeId) → List ℕ
structs_among count fields = flat_map (struct_here count) fields

-- the graph of structs, and how many leaves each has of its own
abbrev pub graph_of : ℕ → List InputStruct → List (List ℕ)
graph_of count structs = map (λ def. structs_among count (input_fields def)) structs

abbrev pub all_own : List InputStruct → List ℕ
all_own structs = map (λ def. own_leaves (input_fields def)) structs

-- no sum is followed past this
abbrev pub most_counted : ℕ
most_counted = 1048577
