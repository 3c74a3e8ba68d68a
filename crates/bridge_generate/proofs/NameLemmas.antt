-- The names of the items differ from one another.
use Rattle.std.proofs.Common.{◌≡◌, ◌≢◌, ℕ, zero, suc, ◌-◌, ◌^◌, ◌<◌, List, [], ◌∷◌, ◌++◌, length, map, get_or, decimal, refl, sym, ap, ◌∙◌, arith, subst, inl, inr, length-append}
use Rattle.std.specs.Prelude.{codes}
use Rattle.std.specs.List.{range_with_len}
use Rattle.std.proofs.lemmas.Bool.{cases_lt}
use Rattle.std.proofs.lemmas.Fmt.{decimal_injective}
use Rattle.std.proofs.lemmas.List.{append-nil, get_or_append_left, get_or-append_right, map-append}
use Rattle.std.proofs.lemmas.List.FromFn.{get_or-map-range_with_len, length-map-range_with_len}
use Rattle.bridge_ast.specs.Sound.{names_in}
use Rattle.bridge_decl.specs.Names.{item_name}
use Rattle.bridge_text.specs.NameIndex.{AreDistinct}
use Rattle.bridge_generate.specs.Generated.{function_name, functions_below, generated_module, struct_name, structs_below}
use Rattle.bridge_generate.proofs.ListLemmas.{begin_apart}

-- ---- lists of names

-- distinct names, and other ones that are distinct
distinct-append : (xs ys : List (List ℕ)) → AreDistinct xs → AreDistinct ys
    → ((i j : ℕ) (d : List ℕ) → i < length xs → j < length ys → get_or xs i d ≢ get_or ys j d) → AreDistinct (xs ++ ys)
distinct-append xs ys first second apart i j d before within same =
    let all = length-append xs ys in
    elim (cases_lt j (length xs)) [
      | inl early ↦
          let i_early : i < length xs = omega arith in
          first i j d before early (sym (get_or_append_left xs ys d i i_early) ∙ same ∙ get_or_append_left xs ys d j early)
      | inr late ↦
          let at_j = get_or-append_right xs ys (length xs) j d refl late in
          elim (cases_lt i (length xs)) [
            | inl early ↦ apart i (j - length xs) d early (omega arith) (sym (get_or_append_left xs ys d i early) ∙ same ∙ at_j)
            | inr both ↦
                second (i - length xs) (j - length xs) d (omega arith) (omega arith)
                (sym (get_or-append_right xs ys (length xs) i d refl both) ∙ same ∙ at_j)
          ]
    ]

-- ---- names by numbers

module _ (letter count : ℕ) where
  abbrev named : ℕ → List ℕ
  named number = letter ∷ decimal number

  abbrev all_named : List (List ℕ)
  all_named = map named (range_with_len 0 count)

  count_is : length all_named ≡ count
  count_is = length-map-range_with_len named 0 count

  -- the name at a place has the number of the place
  name_at : (place : ℕ) (d : List ℕ) → place < length all_named → get_or all_named place d ≡ named place
  name_at place d within = get_or-map-range_with_len named 0 count place place d (omega (arith, count_is)) (omega arith)

  numbers_differ : count < 2 ^ 64 → AreDistinct all_named
  numbers_differ fits i j d before within same =
      let at_i = name_at i d (omega arith) in
      let at_j = name_at j d within in
      let whole : letter ∷ decimal i ≡ letter ∷ decimal j = sym at_i ∙ same ∙ at_j in
      let digits : decimal i ≡ decimal j = cc in
      let number : i ≡ j = decimal_injective i j (omega (arith, count_is)) (omega (arith, count_is)) digits in
      absurd (omega arith)

-- names that begin with different letters
letters_differ : (one other count : ℕ) → one ≢ other → (i j : ℕ) (d : List ℕ) → i < length (all_named one count)
    → j < length (all_named other count) → get_or (all_named one count) i d ≢ get_or (all_named other count) j d
letters_differ one other count differ i j d i_within j_within same =
    begin_apart one other (decimal i) (decimal j) differ
    (sym (name_at one count i d i_within) ∙ same ∙ name_at other count j d j_within)

-- ---- the names of the items

map_twice : {A B C : Type 0} (f : B → C) (g : A → B) (xs : List A) → map f (map g xs) ≡ map (λ x. f (g x)) xs
map_twice f g [] = refl
map_twice f g (x ∷ xs) = ap (λ ys. f (g x) ∷ ys) (map_twice f g xs)

-- those of the structs and then those of the functions
abbrev callable_names : ℕ → List (List ℕ)
callable_names count = map struct_name (range_with_len 0 count) ++ map function_name (range_with_len 0 count)

names_are : (count : ℕ) → names_in (generated_module count) ≡ (codes "O" ∷ []) ++ callable_names count
unfolding structs_below functions_below
names_are count =
    append-nil (map item_name (generated_module count).items)
    ∙ ap (λ names. codes "O" ∷ names) (map-append item_name (structs_below count) (functions_below count))
    ∙ ap (λ names. codes "O" ∷ (names ++ map item_name (functions_below count))) (map_twice item_name _ (range_with_len 0 count))
    ∙ ap (λ names. codes "O" ∷ (map struct_name (range_with_len 0 count) ++ names)) (map_twice item_name _ (range_with_len 0 count))

-- the opaque has the name of none of them
opaque_apart : (count i j : ℕ) (d : List ℕ) → i < length (codes "O" ∷ []) → j < length (callable_names count)
    → get_or (codes "O" ∷ []) i d ≢ get_or (callable_names count) j d
opaque_apart count (suc i) j d i_within j_within same = absurd (omega arith)
opaque_apart count zero j d i_within j_within same =
    let structs = all_named 83 count in
    let functions = all_named 102 count in
    let both = length-append structs functions in
    elim (cases_lt j (length structs)) [
      | inl early ↦
          begin_apart 79 83 [] (decimal j) (λ e. absurd (omega arith))
          (same ∙ get_or_append_left structs functions d j early ∙ name_at 83 count j d early)
      | inr late ↦
          let place = j - length structs in
          begin_apart 79 102 [] (decimal place) (λ e. absurd (omega arith))
          (same ∙ get_or-append_right structs functions (length structs) j d refl late ∙ name_at 102 count place d (omega arith))
    ]

pub names_differ : (count : ℕ) → count < 2 ^ 64 → AreDistinct (names_in (generated_module count))
names_differ count fits =
    let callables : AreDistinct (callable_names count) =
    distinct-append (all_named 83 count) (all_named 102 count) (numbers_differ 83 count fits) (numbers_differ 102 count fits)
    (letters_differ 83 102 count (λ e. absurd (omega arith))) in
    subst AreDistinct (sym (names_are count))
    (distinct-append (codes "O" ∷ []) (callable_names count) (λ i j d before within. absurd (omega arith)) callables (opaque_apart count))
