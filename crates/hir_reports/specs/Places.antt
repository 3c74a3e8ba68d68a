-- How the place of a report is printed.
use Rattle.std.specs.Prelude.{ℕ, List, [], ◌∷◌, ◌++◌, codes, Option, Some, None}
use Rattle.bridge_decl.specs.Names.{joined}
use Rattle.hir_reports.specs.declared.places.ErrorContext.{ErrorContext}

-- an item whose name is empty is left out
abbrev pub named_segments : List ℕ → List (List ℕ)
named_segments [] = []
named_segments (c ∷ cs) = (c ∷ cs) ∷ []

-- the method, where there is one
abbrev pub subitem_segments : Option (List ℕ) → List (List ℕ)
subitem_segments None = []
subitem_segments (Some subitem) = subitem ∷ []

-- the segments of the module, the item and the method
abbrev pub context_segments : ErrorContext → List (List ℕ)
context_segments context = context.«module» ++ named_segments context.item ++ subitem_segments context.subitem

-- segments with `::` between each two; without any, the root
abbrev pub module_text : List (List ℕ) → List ℕ
module_text [] = codes "root module"
module_text (segment ∷ segments) = joined (codes "::") (segment ∷ segments)

-- a place as it is printed
abbrev pub context_text : ErrorContext → List ℕ
context_text context = module_text (context_segments context)

-- a place within its module: the item, and `::` and the method where there is one
abbrev pub location_of : List ℕ → Option (List ℕ) → List ℕ
location_of item None = item
location_of item (Some subitem) = item ++ codes "::" ++ subitem

abbrev pub location_text : ErrorContext → List ℕ
location_text context = location_of context.item context.subitem
