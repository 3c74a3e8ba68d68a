-- The segments of a place, one after another.
use Rattle.std.proofs.Common.{◌≡◌, ℕ, Bool, true, false, List, [], ◌∷◌, ◌++◌, length, Option, refl, sym, ap, ◌∙◌, append_assoc}
use Rattle.std.specs.Prelude.{◌==◌, codes, not}
use Rattle.std.specs.List.{flat_map, join_by}
use Rattle.std.proofs.lemmas.List.{append-nil}
use lib.Dec.{eqb-suc-zero}
use Rattle.bridge_decl.specs.Names.{joined}
use Rattle.hir_reports.specs.Places.{context_text, module_text, named_segments, subitem_segments}
use Rattle.hir_reports.specs.Store.{at_place}
use Rattle.bridge_printing.specs.inside.Segments.{any_after, joined_after, root_text, separator_if}

-- an item without a name
pub unnamed : (after : Bool) (item : List ℕ) (is_empty : Bool) → is_empty ≡ (length item == 0) → is_empty ≡ true → [] ≡ joined_after after (named_segments item)
unnamed after [] is_empty same is = refl
unnamed after (c ∷ cs) is_empty same is = let never : true ≡ false = sym is ∙ same ∙ eqb-suc-zero (length cs) in absurd cc

after_one : (segments : List (List ℕ)) → flat_map (λ segment. codes "::" ++ segment) segments ≡ joined_after true segments
after_one [] = refl
after_one (segment ∷ segments) = ap (λ text. (codes "::" ++ segment) ++ text) (after_one segments)

-- segments of a module, before all others
from_first : (segments : List (List ℕ)) → join_by (λ segment. segment) (codes "::") segments ≡ joined_after false segments
from_first [] = refl
from_first (segment ∷ segments) = ap (λ text. segment ++ text) (after_one segments)

any_then : (segments : List (List ℕ)) → any_after true segments ≡ true
any_then [] = refl
any_then (segment ∷ segments) = refl

any_is : (segments : List (List ℕ)) → not (length segments == 0) ≡ any_after false segments
any_is [] = refl
any_is (segment ∷ segments) = ap not (eqb-suc-zero (length segments))

-- some segments, and then others
joined_then : (after : Bool) (xs ys : List (List ℕ)) → joined_after after (xs ++ ys) ≡ joined_after after xs ++ joined_after (any_after after xs) ys
joined_then after [] ys = refl
joined_then after (x ∷ xs) ys =
    ap (λ text. (separator_if after ++ x) ++ text) (joined_then true xs ys ∙ ap (λ b. joined_after true xs ++ joined_after b ys) (any_then xs))
    ∙ sym (append_assoc (separator_if after ++ x) (joined_after true xs) (joined_after true ys))

any_more : (after : Bool) (xs ys : List (List ℕ)) → any_after after (xs ++ ys) ≡ any_after (any_after after xs) ys
any_more after [] ys = refl
any_more after (x ∷ xs) ys = sym (any_then ys)

pub joined_rest : (separator text : List ℕ) (texts : List (List ℕ)) → joined separator (text ∷ texts) ≡ join_by (λ s. s) separator (text ∷ texts)
joined_rest separator text [] = sym (append-nil text)
joined_rest separator text (next ∷ texts) =
    ap (λ t. text ++ separator ++ t) (joined_rest separator next texts)
    ∙ append_assoc text separator (next ++ flat_map (λ z. separator ++ z) texts)
    ∙ ap (λ t. text ++ t) (sym (append_assoc separator next (flat_map (λ z. separator ++ z) texts)))

-- a place, or the root
module_is : (segments : List (List ℕ)) → joined_after false segments ++ root_text (any_after false segments) ≡ module_text segments
module_is [] = refl
module_is (segment ∷ segments) =
    append-nil (joined_after false (segment ∷ segments)) ∙ sym (from_first (segment ∷ segments)) ∙ sym (joined_rest (codes "::") segment segments)

module _ (path : List (List ℕ)) (item : List ℕ) (subitem : Option (List ℕ)) where
  abbrev texts : Bool → Bool → Bool → List ℕ
  texts in_module with_item with_method =
      join_by (λ segment. segment) (codes "::") path ++ joined_after in_module (named_segments item)
      ++ joined_after with_item (subitem_segments subitem) ++ root_text with_method

  abbrev has_module : Bool
  has_module = any_after false path

  abbrev has_item : Bool
  has_item = any_after has_module (named_segments item)

  all_segments : texts has_module has_item (any_after has_item (subitem_segments subitem)) ≡ context_text (at_place path item subitem)
  all_segments =
      let named = named_segments item in
      let sub = subitem_segments subitem in
      let both : any_after false (path ++ named) ≡ has_item = any_more false path named in
      let all : any_after false (path ++ named ++ sub) ≡ any_after has_item sub = any_more false (path ++ named) sub ∙ ap (λ b. any_after b sub) both in
      let front : joined_after false (path ++ named) ≡ join_by (λ segment. segment) (codes "::") path ++ joined_after has_module named =
      joined_then false path named ∙ ap (λ text. text ++ joined_after has_module named) (sym (from_first path)) in
      ap (λ text. text ++ joined_after has_item sub ++ root_text (any_after has_item sub)) (sym front)
      ∙ ap (λ b. joined_after false (path ++ named) ++ joined_after b sub ++ root_text (any_after has_item sub)) (sym both)
      ∙ ap (λ text. text ++ root_text (any_after has_item sub)) (sym (joined_then false (path ++ named) sub))
      ∙ ap (λ b. joined_after false (path ++ named ++ sub) ++ root_text b) (sym all)
      ∙ module_is (path ++ named ++ sub)

  -- a place, segment by segment
  pub place_is : (is_empty with_item with_method : Bool) → is_empty ≡ (length path == 0) → with_item ≡ any_after (not is_empty) (named_segments item)
      → with_method ≡ any_after with_item (subitem_segments subitem) → texts (not is_empty) with_item with_method ≡ context_text (at_place path item subitem)
  place_is is_empty with_item with_method empty itemed methoded =
      let first : not is_empty ≡ has_module = ap not empty ∙ any_is path in
      let second : with_item ≡ has_item = itemed ∙ ap (λ b. any_after b (named_segments item)) first in
      let third : with_method ≡ any_after has_item (subitem_segments subitem) = methoded ∙ ap (λ b. any_after b (subitem_segments subitem)) second in
      ap (λ b. texts b with_item with_method) first ∙ ap (λ b. texts has_module b with_method) second ∙ ap (λ b. texts has_module has_item b) third
      ∙ all_segments
