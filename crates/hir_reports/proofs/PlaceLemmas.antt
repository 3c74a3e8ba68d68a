-- A place within a module, as it is printed.
use Rattle.std.proofs.Common.{◌≡◌, ℕ, ◌==◌, true, false, true≢false, length, List, [], ◌∷◌, ◌++◌, Option, Some, None, refl, sym, ap, ◌∙◌}
use Rattle.std.specs.Prelude.{codes, is_some}
use Rattle.std.proofs.lemmas.List.{append_assoc}
use Rattle.bridge_decl.specs.Names.{joined}
use Rattle.hir_reports.specs.Places.{module_text, named_segments, subitem_segments}
use Rattle.hir_reports.specs.inside.Openings.{module_opening, inner_text}

-- a path with something in it
within : (path : List (List ℕ)) (segment : List ℕ) (more : List (List ℕ))
    → module_text (path ++ segment ∷ more) ≡ module_opening path ++ joined (codes "::") (segment ∷ more)
within [] segment more = refl
within (first ∷ []) segment more = refl
within (first ∷ next ∷ path) segment more =
    ap (λ text. first ++ codes "::" ++ text) (within (next ∷ path) segment more)
    ∙ sym (append_assoc (first ++ codes "::") (joined (codes "::") (next ∷ path) ++ codes "::") (joined (codes "::") (segment ∷ more)))
    ∙ ap (λ text. text ++ joined (codes "::") (segment ∷ more)) (sym (append_assoc (first ++ codes "::") (joined (codes "::") (next ∷ path)) (codes "::")))

-- what is printed of an item
pub placed_item : (path : List (List ℕ)) (c : ℕ) (cs : List ℕ) (subitem : Option (List ℕ))
    → module_text (path ++ named_segments (c ∷ cs) ++ subitem_segments subitem) ≡ module_opening path ++ inner_text (c ∷ cs) subitem
placed_item path c cs None = ap module_text (append_assoc path ((c ∷ cs) ∷ []) []) ∙ within path (c ∷ cs) []
placed_item path c cs (Some method) =
    ap module_text (append_assoc path ((c ∷ cs) ∷ []) (method ∷ [])) ∙ within path (c ∷ cs) (method ∷ [])

-- what is printed of a method of an item without a name
pub placed_method : (path : List (List ℕ)) (method : List ℕ)
    → module_text (path ++ named_segments [] ++ subitem_segments (Some method)) ≡ module_opening path ++ inner_text [] (Some method)
placed_method path method =
    ap module_text (append_assoc path [] (method ∷ [])) ∙ within path method []

-- the same, where the item has a name or there is a method
pub placed_by_item : (path : List (List ℕ)) (item : List ℕ) (subitem : Option (List ℕ)) → (length item == 0) ≡ false
    → module_opening path ++ inner_text item subitem ≡ module_text (path ++ named_segments item ++ subitem_segments subitem)
placed_by_item path [] subitem named = absurd (true≢false named)
placed_by_item path (c ∷ cs) subitem named = sym (placed_item path c cs subitem)

pub placed_by_method : (path : List (List ℕ)) (item : List ℕ) (subitem : Option (List ℕ)) → is_some subitem ≡ true
    → module_opening path ++ inner_text item subitem ≡ module_text (path ++ named_segments item ++ subitem_segments subitem)
placed_by_method path [] None there = absurd (true≢false (sym there))
placed_by_method path [] (Some method) there = sym (placed_method path method)
placed_by_method path (c ∷ cs) subitem there = sym (placed_item path c cs subitem)
