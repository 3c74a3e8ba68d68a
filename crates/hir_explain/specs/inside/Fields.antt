-- The fields of a search: the lifetimes that were reached with their origins, and for each lifetime its place among them.
use Rattle.std.specs.Prelude.{◌≡◌, ◌↔◌, ℕ, ◌<◌, ◌≤◌, Some, None, length, slice_index, slice_index_or, vec_capacity}
use Rattle.hir_explain.specs.inside.Searching.{Found, IsFound}
use Rattle.hir_explain.specs.declared.search.Search.TheInside.{Inside}

-- the search that the fields stand for
abbrev pub found_of : Inside → Found
found_of a = record { environment = a.env.now; reached = a.reached.items; origins = a.origins.items }

-- what is true of the fields between two calls: there is room for all lifetimes, and a lifetime has a place exactly where it
-- stands there among those that were reached
pub record IsSearched (a : Inside) : Type 0 where
  pub room : a.env.now.count ≤ vec_capacity a.reached
  pub origins_room : a.env.now.count ≤ vec_capacity a.origins
  pub each : length a.places.items ≡ a.env.now.count
  pub placed : (l j : ℕ) → ((slice_index_or a.places.items l None ≡ Some j) ↔ ((j < length a.reached.items) × (slice_index a.reached.items j ≡ l)))
  pub found : IsFound (found_of a)
