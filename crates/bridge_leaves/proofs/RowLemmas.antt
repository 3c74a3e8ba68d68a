-- Rows of a graph that are filled one after another, and sums that grow.
use Rattle.std.proofs.Common.{◌≡◌, ◌<◌, ◌+◌, ℕ, List, [], ◌∷◌, ◌++◌, length, get_or, take, map, cond, refl, ap, sym, ◌∙◌, arith, append_assoc}
use Rattle.std.specs.List.{sum_by}
use Rattle.std.proofs.lemmas.List.Sums.{sum_by-append, sum_by-cons}
use Rattle.std.proofs.lemmas.List.{length-map, length-take-le, map-append, take_more, flat_map_more}
use Rattle.bridge_leaves.specs.inside.Counting.{graph_of, leaves_here, own_leaves, struct_here, structs_among}
use Rattle.hir_context.specs.Lookups.{InputStruct}
use Rattle.hir_ids.specs.declared.ids.TypeId.{TypeId}
use Rattle.hir_skeleton.specs.Lowered.{input_fields}
use Rattle.hir_ids.specs.declared.ids.TypeId.TheVariants as type
use Rattle.hir_life.specs.declared.maybe_static.MaybeStatic.{MaybeStatic}
use Rattle.hir_skeleton.specs.Skeletons.{Skeleton, Struct}
use Rattle.std.proofs.lemmas.Bool.{lt-ltb}

-- the sum of one more
pub sum_more : {A : Type 0} (f : A → ℕ) (xs : List A) (x : A) → sum_by f (xs ++ x ∷ []) ≡ sum_by f xs + f x
sum_more f xs x = let both = sum_by-append f xs (x ∷ []) in let one = sum_by-cons f x [] in let none : sum_by f [] ≡ 0 = refl in omega (arith, both, one, none)

-- one more of a list that is mapped
pub map_next : {A B : Type 0} (f : A → B) (xs : List A) (i : ℕ) (x : A) → i < length xs → x ≡ get_or xs i x
    → map f (take i xs) ++ f x ∷ [] ≡ map f (take (i + 1) xs)
map_next f xs i x within is =
    sym (map-append f (take i xs) (x ∷ [])) ∙ ap (λ y. map f (take i xs ++ y ∷ [])) is ∙ ap (map f) (sym (take_more xs i x within))

-- the leaves of one field more
pub own_next : {A K : Type 0} (f : A → Skeleton K) (xs : List A) (i : ℕ) (x : A) → i < length xs → x ≡ get_or xs i x
    → own_leaves (map f (take i xs)) + leaves_here (f x) ≡ own_leaves (map f (take (i + 1) xs))
own_next f xs i x within is = sym (sum_more leaves_here (map f (take i xs)) (f x)) ∙ ap own_leaves (map_next f xs i x within is)

-- the structs of one field more
pub among_next : {A : Type 0} (count : ℕ) (f : A → Skeleton TypeId) (xs : List A) (i : ℕ) (x : A) → i < length xs → x ≡ get_or xs i x
    → structs_among count (map f (take i xs)) ++ struct_here count (f x) ≡ structs_among count (map f (take (i + 1) xs))
among_next count f xs i x within is =
    flat_map_more (struct_here count) [] (map f (take i xs)) (f x) ∙ ap (structs_among count) (map_next f xs i x within is)

-- a row more is filled
pub filled : (rows : List (List ℕ)) (row : List ℕ) (rest : List (List ℕ)) → rows ++ row ∷ rest ≡ (rows ++ row ∷ []) ++ rest
filled rows row rest = sym (append_assoc rows (row ∷ []) rest)

-- the graph of one struct more
pub graph_next : (count : ℕ) (structs : List InputStruct) (i : ℕ) (def : InputStruct) → i < length structs → def ≡ get_or structs i def
    → graph_of count (take i structs) ++ structs_among count (input_fields def) ∷ [] ≡ graph_of count (take (i + 1) structs)
graph_next count structs i def within is = map_next (λ (d : InputStruct). structs_among count (input_fields d)) structs i def within is

pub rows_at : (count : ℕ) (structs : List InputStruct) (i : ℕ) → i < length structs → length (graph_of count (take i structs)) ≡ i
rows_at count structs i within =
    length-map (take i structs) (λ (d : InputStruct). structs_among count (input_fields d)) ∙ length-take-le i structs (omega (arith, within))

-- a struct that is one of so many
pub is_here : (count id : ℕ) (args : List (MaybeStatic ℕ)) → id < count → struct_here count (Struct (type.Struct id) args) ≡ id ∷ []
is_here count id args within = ap (λ b. cond b (id ∷ []) []) (lt-ltb id count within)
