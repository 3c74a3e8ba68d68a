-- The layout of pages as the code keeps it.
use Rattle.std.specs.Prelude.{ℕ, List, map, Option, Some, None}
use Rattle.std.specs.Borrow.{Bor}
use Rattle.hir_docs.specs.Links.{Layout, Index, Page}

-- a layout as the code has it: the prefix and the texts, or none for an index
abbrev pub shown : Option (Bor (List ℕ) × Bor (List (Bor (List ℕ)))) → Layout
shown None = Index
shown (Some page) = Page page.0.now (map (λ anchor. anchor.now) page.1.now)
