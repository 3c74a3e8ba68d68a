-- Whose path is whose.
use Rattle.std.specs.Prelude.{ℕ, List, slice_get}
use Rattle.bridge_ast.specs.declared.place.ItemPlace.{ItemPlace}
use Rattle.bridge_decl.specs.declared.modules.Module.{Module}
use Rattle.hir_mentions.specs.Mentions.{where_any}

-- the path of the module of a place
abbrev pub path_of_place : List Module → ItemPlace → List (List ℕ)
path_of_place modules place = where_any (λ m. m.path) (slice_get modules place.«module»)
