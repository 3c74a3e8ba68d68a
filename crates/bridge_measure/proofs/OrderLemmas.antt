-- Where the functions of the made declarations stand, in order.
use Rattle.std.proofs.Common.{◌≡◌, ℕ, zero, suc, ◌+◌, List, [], ◌∷◌, ◌++◌, length, map, refl, sym, ap, ◌∙◌, arith, append-nil, append_assoc}
use Rattle.std.specs.List.{range_with_len}
use Rattle.std.proofs.lemmas.List.FromFn.{length-map-range_with_len}
use Rattle.bridge_ast.specs.declared.place.ItemPlace.{ItemPlace}
use Rattle.bridge_decl.specs.declared.modules.Item.{Item}
use Rattle.bridge_decl.specs.declared.modules.Item.TheVariants as item
use Rattle.bridge_generate.specs.Generated.{function_numbered, functions_below, struct_numbered, structs_below}
use Rattle.bridge_order.specs.Order.{where_there}
use Rattle.bridge_places.specs.Kinds.{item_kind, same_kind}
use Rattle.bridge_places.specs.Places.{places_in, places_of}
use Rattle.bridge_places.specs.declared.kinds.Kind.TheVariants as kind
use Rattle.bridge_measure.specs.Measured.{measured}
use Rattle.bridge_measure.specs.inside.Made.{function_place}

-- of items and then other ones
in_both : (xs ys : List Item) (i : ℕ)
    → places_in kind.Function 0 i (xs ++ ys) ≡ places_in kind.Function 0 i xs ++ places_in kind.Function 0 (i + length xs) ys
in_both [] ys i = ap (λ n. places_in kind.Function 0 n ys) (omega arith)
in_both (x ∷ xs) ys i =
    let here : List ItemPlace = where_there (same_kind (item_kind x) kind.Function) (record { «module» = 0; item = i }) in
    ap (λ places. here ++ places)
    (in_both xs ys (i + 1) ∙ ap (λ n. places_in kind.Function 0 (i + 1) xs ++ places_in kind.Function 0 n ys) (omega arith))
    ∙ sym (append_assoc here (places_in kind.Function 0 (i + 1) xs) (places_in kind.Function 0 (i + length (x ∷ xs)) ys))

-- no struct is one
of_structs : (a n i : ℕ) → places_in kind.Function 0 i (map (λ number. item.Struct (struct_numbered number)) (range_with_len a n)) ≡ []
of_structs a zero i = refl
of_structs a (suc n) i = of_structs (a + 1) n (i + 1)

-- each function is, and they stand one after another
of_functions : (count a n : ℕ)
    → places_in kind.Function 0 (count + a + 1) (map (λ number. item.Function (function_numbered number)) (range_with_len a n))
    ≡ map (function_place count) (range_with_len a n)
of_functions count a zero = refl
of_functions count a (suc n) =
    ap (λ places. function_place count a ∷ places)
    (ap (λ i. places_in kind.Function 0 i (map (λ number. item.Function (function_numbered number)) (range_with_len (a + 1) n))) (omega arith)
    ∙ of_functions count (a + 1) n)

pub functions_stand : (count : ℕ) → places_of (measured count) kind.Function ≡ map (function_place count) (range_with_len 0 count)
unfolding structs_below functions_below
functions_stand count =
    let structs = structs_below count in
    let functions = functions_below count in
    let long = length-map-range_with_len (λ number. item.Struct (struct_numbered number)) 0 count in
    append-nil (places_in kind.Function 0 1 (structs ++ functions))
    ∙ in_both structs functions 1
    ∙ ap (λ places. places ++ places_in kind.Function 0 (1 + length structs) functions) (of_structs 0 count 1)
    ∙ ap (λ i. places_in kind.Function 0 i functions) (omega (arith, long))
    ∙ of_functions count 0 count
