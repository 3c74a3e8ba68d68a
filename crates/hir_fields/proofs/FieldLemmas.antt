-- Fields of what else they have and their types.
use Rattle.std.proofs.Common.{◌≡◌, ℕ, List, [], ◌∷◌, ◌++◌, length, map, Option, Some, None, Result, Ok, Err, refl, sym, ap, subst, ◌∙◌}
use Rattle.std.specs.Prelude.{IfOk, IfSome, IsNone, IsSome, option_map}
use Rattle.hir_reports.specs.declared.report.LoweringError.{LoweringError}
use Rattle.hir_fields.proofs.SoFar.{back_none, front_none}
use Rattle.hir_fields.specs.Told.{StandsUnlessTold}
use Rattle.hir_heads.specs.Told.{MadeUnlessTold}
use Rattle.hir_fields.specs.inside.Pairs.{HaveOneLength, zipped, zipped_where_given}

-- both lists have an element for each field
pub one_length : {A B : Type 0} (heads : Option (List A)) (types : Option (List B)) (fields : ℕ) → IfSome heads (λ hs. length hs ≡ fields) → IfSome types (λ ts. length ts ≡ fields)
    → HaveOneLength heads types
one_length None types fields first second = tt
one_length (Some hs) None fields first second = tt
one_length (Some hs) (Some ts) fields first second = first ∙ sym second

zipped_map : {X A B C : Type 0} (make : A → B → C) (f : X → A) (xs : List X) (ys : List B) → zipped make (map f xs) ys ≡ zipped (λ x y. make (f x) y) xs ys
zipped_map make f [] ys = refl
zipped_map make f (x ∷ xs) [] = refl
zipped_map make f (x ∷ xs) (y ∷ ys) = ap (λ zs. make (f x) y ∷ zs) (zipped_map make f xs ys)

joined_given : {X A B C : Type 0} (make : A → B → C) (head : X → A) (xs : List X) (form : Option (List B)) (heads : Option (List A)) (types : Option (List B))
    → heads ≡ Some (map head xs) → IsSome types → form ≡ types
    → IsSome (zipped_where_given make heads types) × (option_map (λ ts. zipped (λ x y. make (head x) y) xs ts) form ≡ zipped_where_given make heads types)
joined_given make head xs form None types is some same = absurd cc
joined_given make head xs form (Some hs) None is some same = absurd cc
joined_given make head xs form (Some hs) (Some ts) is some same =
    let here : hs ≡ map head xs = cc in (
      refl,
      ap (option_map (λ ys. zipped (λ x y. make (head x) y) xs ys)) same
          ∙ ap (λ zs. Some zs) (sym (zipped_map make head xs ts) ∙ ap (λ ys. zipped make ys ts) (sym here)),
    )

-- the fields are made where nothing is told of them or of the lifetimes
fields_given : {X A B C : Type 0} (make : A → B → C) (head : X → A) (xs : List X) (form : Option (List B)) (heads : Option (List A)) (types : Option (List B))
    (made : Option (List C)) (of_lifetimes of_heads of_types : List LoweringError) → MadeUnlessTold of_heads (map head xs) heads
    → StandsUnlessTold (of_lifetimes ++ of_types) form types → made ≡ zipped_where_given make heads types
    → StandsUnlessTold (of_lifetimes ++ (of_heads ++ of_types)) (option_map (λ ts. zipped (λ x y. make (head x) y) xs ts) form) made
fields_given make head xs form heads types made of_lifetimes of_heads of_types headed typed is = λ none.
    let lives = front_none of_lifetimes (of_heads ++ of_types) none in
    let rest = back_none of_lifetimes (of_heads ++ of_types) none in
    let all = typed (ap (λ es. es ++ of_types) lives ∙ back_none of_heads of_types rest) in
    let both = joined_given make head xs form heads types (headed (front_none of_heads of_types rest)) all.0 all.1 in
    (subst IsSome (sym is) both.0, both.1 ∙ sym is)

-- nothing is made where the types aren't
pub fields_absent : {A B C : Type 0} (make : A → B → C) (heads : Option (List A)) (types : Option (List B)) (made : Option (List C)) → IsNone types
    → made ≡ zipped_where_given make heads types → IsNone made
fields_absent make None types made none is = subst IsNone (sym is) refl
fields_absent make (Some hs) None made none is = subst IsNone (sym is) refl
fields_absent make (Some hs) (Some ts) made none is = absurd cc

-- so, by the answer of a call that may want memory
pub fields_given_ok : {X A B C E : Type 0} (make : A → B → C) (head : X → A) (xs : List X) (form : Option (List B)) (heads : Option (List A)) (types : Option (List B))
    (result : Result (Option (List C)) E) (of_lifetimes of_heads of_types : List LoweringError) → MadeUnlessTold of_heads (map head xs) heads
    → StandsUnlessTold (of_lifetimes ++ of_types) form types → IfOk result (λ made. made ≡ zipped_where_given make heads types)
    → IfOk result (StandsUnlessTold (of_lifetimes ++ (of_heads ++ of_types)) (option_map (λ ts. zipped (λ x y. make (head x) y) xs ts) form))
fields_given_ok make head xs form heads types (Ok made) of_lifetimes of_heads of_types headed typed is =
    fields_given make head xs form heads types made of_lifetimes of_heads of_types headed typed is
fields_given_ok make head xs form heads types (Err e) of_lifetimes of_heads of_types headed typed is = tt
