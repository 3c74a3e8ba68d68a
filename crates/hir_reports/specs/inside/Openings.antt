-- What the code that prints places calls its parts.
use Rattle.std.specs.Prelude.{ℕ, List, [], ◌∷◌, ◌++◌, codes, Option, Some, None}
use Rattle.bridge_decl.specs.Names.{joined}
use Rattle.hir_reports.specs.Places.{location_of}

-- a module with `::` after it; the root has none
abbrev pub module_opening : List (List ℕ) → List ℕ
module_opening [] = []
module_opening (segment ∷ segments) = joined (codes "::") (segment ∷ segments) ++ codes "::"

-- what stands in a module, as it is printed; the item is left out where it has no name
abbrev pub inner_text : List ℕ → Option (List ℕ) → List ℕ
inner_text [] None = []
inner_text [] (Some subitem) = subitem
inner_text (c ∷ cs) subitem = location_of (c ∷ cs) subitem
