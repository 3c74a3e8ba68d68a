-- Definitions that are placed from the last to the first.
use Rattle.std.proofs.Common.{◌≡◌, ◌+◌, ℕ, List, [], ◌∷◌, ◌++◌, ap, append_assoc, arith, length, map, reverse, subst, sym, ◌∙◌}
use Rattle.std.specs.List.{enumerate_from}
use Rattle.std.proofs.lemmas.Grind.{reverse_onto}
use Rattle.std.proofs.lemmas.List.{length-append, reverse-reverse}
use Rattle.bridge_ast.specs.declared.place.ItemPlace.{ItemPlace}
use Rattle.bridge_decl.specs.declared.modules.Module.{Module}
use Rattle.hir_context.specs.declared.parts.Placed.{Placed}
use Rattle.hir_lower.specs.inside.Parts.{StandAtPlaces, path_of_number}

-- one more, of which the path is that of its number
pub module_more :
    {D : Type 0} (modules : List Module) (places : List ItemPlace) (p : Placed D) (rest : List (Placed D)) (left fewer : List D)
    → left ≡ fewer ++ p.def ∷ [] → p.«module» ≡ path_of_number modules places (length fewer)
    → map (λ q. q.«module») rest ≡ map (λ n. path_of_number modules places n.0) (enumerate_from (length left) (map (λ q. q.def) rest))
    → map (λ q. q.«module») (p ∷ rest) ≡ map (λ n. path_of_number modules places n.0) (enumerate_from (length fewer) (map (λ q. q.def) (p ∷ rest)))
module_more {D} modules places p rest left fewer last is so =
    let long : length left ≡ length fewer + 1 =
    let whole = ap length last in
    let parts = length-append fewer (p.def ∷ []) in
    omega (arith, whole, parts)
    in
    let path : (ℕ × D) → List (List ℕ) = λ n. path_of_number modules places n.0 in
    ap (λ m. m ∷ map (λ q. q.«module») rest) is
    ∙ ap (λ ms. path_of_number modules places (length fewer) ∷ ms) (so ∙ ap (λ n. map path (enumerate_from n (map (λ q. q.def) rest))) long)

pub placed_more : {D : Type 0} (p : Placed D) (rest made : List (Placed D)) → made ≡ reverse rest → made ++ p ∷ [] ≡ reverse (p ∷ rest)
placed_more p rest made is = ap (λ ys. ys ++ p ∷ []) is ∙ sym (reverse_onto rest p [])

pub taken : {D : Type 0} (all left fewer : List D) (p : Placed D) (rest : List (Placed D)) → all ≡ left ++ map (λ q. q.def) rest → left ≡ fewer ++ p.def ∷ []
    → all ≡ fewer ++ map (λ q. q.def) (p ∷ rest)
taken all left fewer p rest is last = is ∙ ap (λ xs. xs ++ map (λ q. q.def) rest) last ∙ append_assoc fewer (p.def ∷ []) (map (λ q. q.def) rest)

pub all_placed :
    {D : Type 0} (modules : List Module) (places : List ItemPlace) (all left : List D) (rest made final : List (Placed D))
    → all ≡ left ++ map (λ q. q.def) rest → left ≡ [] → made ≡ reverse rest
    → map (λ q. q.«module») rest ≡ map (λ n. path_of_number modules places n.0) (enumerate_from (length left) (map (λ q. q.def) rest))
    → final ≡ reverse made → StandAtPlaces modules places all final
all_placed {D} modules places all left rest made final is none so ways end =
    let whole : final ≡ rest = end ∙ ap reverse so ∙ reverse-reverse rest in
    let same : all ≡ map (λ q. q.def) rest = is ∙ ap (λ xs. xs ++ map (λ q. q.def) rest) none in
    let path : (ℕ × D) → List (List ℕ) = λ n. path_of_number modules places n.0 in
    record {
      defs = ap (map (λ q. q.def)) whole ∙ sym same;
      paths =
          ap (map (λ q. q.«module»)) whole ∙ ways ∙ ap (λ (xs : List D). map path (enumerate_from (length xs) (map (λ q. q.def) rest))) none
          ∙ ap (λ xs. map path (enumerate_from 0 xs)) (sym same);
    }

-- the places may be written otherwise
pub at_places :
    {D : Type 0} (modules : List Module) (places others : List ItemPlace) (list : List D) (placed : List (Placed D))
    → places ≡ others → StandAtPlaces modules places list placed → StandAtPlaces modules others list placed
at_places modules places others list placed same are = subst (λ ps. StandAtPlaces modules ps list placed) same are
