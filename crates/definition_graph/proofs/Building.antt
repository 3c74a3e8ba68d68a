-- A graph that gets one edge more.
use Rattle.std.proofs.Common.{◌≡◌, ℕ, ◌<◌, inl, inr, List, [], ◌∷◌, ◌++◌, length, get_or, set, map, replicate, sym, ◌∙◌, ap, subst, arith, get_or-set_same, get_or-set_other, length-set}
use Rattle.std.specs.Global.{Vec}
use Rattle.std.specs.List.{Contains}
use Rattle.std.proofs.lemmas.List.{get_or-map, map-set, set-get_or, get_or-replicate, get_or_past, length-replicate}
use Rattle.std.proofs.lemmas.List.Elements.{Contains-push_cases}
use Rattle.std.proofs.lemmas.Bool.{cases_lt, cases_eq}
use Rattle.definition_graph.specs.Reaching.{IsGraph, successors}

abbrev pub items_of : Vec ℕ → List ℕ
items_of row = row.items

-- a row that was read
row_named :
    (rows : List (Vec ℕ)) (from : ℕ) (row : Vec ℕ) → from < length rows → row ≡ get_or rows from row
    → successors (map items_of rows) from ≡ row.items
row_named rows from row within read = get_or-map items_of rows from row [] within ∙ ap items_of (sym read)

-- a row is written with one more at its end
pub row_more :
    (rows : List (Vec ℕ)) (from to : ℕ) (row row' : Vec ℕ) → from < length rows → row ≡ get_or rows from row
    → row'.items ≡ row.items ++ to ∷ []
    → map items_of (set rows from row') ≡ set (map items_of rows) from (successors (map items_of rows) from ++ to ∷ [])
row_more rows from to row row' within read more =
    map-set items_of rows from row'
    ∙ ap (λ xs. set (map items_of rows) from xs) (more ∙ ap (λ xs. xs ++ to ∷ []) (sym (row_named rows from row within read)))

-- or as it was
pub row_same :
    (rows : List (Vec ℕ)) (from : ℕ) (row row' : Vec ℕ) → from < length rows → row ≡ get_or rows from row → row'.items ≡ row.items
    → map items_of (set rows from row') ≡ map items_of rows
row_same rows from row row' within read same =
    map-set items_of rows from row'
    ∙ ap (λ xs. set (map items_of rows) from xs) (same ∙ sym (row_named rows from row within read))
    ∙ set-get_or (map items_of rows) from []

pub graph_more :
    (g : List (List ℕ)) (from to : ℕ) → IsGraph g → from < length g → to < length g
    → IsGraph (set g from (successors g from ++ to ∷ []))
graph_more g from to graph within named a b edge =
    let few : b < length g =
    elim (cases_eq a from) [
      | inl e ↦
          let row : successors (set g from (successors g from ++ to ∷ [])) a ≡ successors g from ++ to ∷ [] =
          ap (λ n. get_or (set g from (successors g from ++ to ∷ [])) n []) e ∙ get_or-set_same g from _ [] within in
          elim (Contains-push_cases (successors g from) to b (subst (λ xs. Contains xs b) row edge)) [
            | inl old ↦ graph from b old
            | inr same ↦ omega (arith, same, named)
          ]
      | inr ne ↦ graph a b (subst (λ xs. Contains xs b) (get_or-set_other g from a _ [] ne) edge)
    ] in
    omega (arith, few, length-set g from (successors g from ++ to ∷ []))

-- a graph with no edges
pub graph_none : (n : ℕ) → IsGraph (replicate n [])
graph_none n a b edge =
    let none : List ℕ = [] in
    elim (cases_lt a n) [
      | inl lt ↦ absurd (omega (arith, edge.1, ap length (get_or-replicate n a none none lt)))
      | inr ge ↦ absurd (omega (arith, edge.1, ap length (get_or_past (replicate n none) a none (omega (arith, ge, length-replicate n none)))))
    ]
