-- The bounds between lifetimes, as the nodes of an environment list them on either side.
use Rattle.std.specs.Prelude.{ℕ, List, [], map, slice_index_or, length, Bool, ◌||◌, nat_eq, nat_le, nat_lt}
use Rattle.std.specs.List.{list_any, list_all}
use Rattle.bridge_decl.specs.declared.lifetimes.LifetimeNode.{LifetimeNode}
use Rattle.bridge_ast.specs.declared.bounds.Side.{Side}
use Rattle.bridge_ast.specs.declared.bounds.Side.TheVariants.{Longer, Shorter}

-- the other side
abbrev pub opposite_of : Side → Side
opposite_of Longer = Shorter
opposite_of Shorter = Longer

-- the numbers that a lifetime lists on the side
abbrev pub listed : Side → LifetimeNode → List ℕ
listed Longer node = node.longer
listed Shorter node = node.shorter

-- the numbers that the lifetime of a number lists on the side; none where there is no such lifetime
abbrev pub listed_at : Side → List LifetimeNode → ℕ → List ℕ
listed_at side nodes number = slice_index_or (map (listed side) nodes) number []

-- whether each number on the side is the number of a node
abbrev pub in_range : Side → List LifetimeNode → LifetimeNode → Bool
in_range side nodes node = list_all (λ to. nat_lt to (length nodes)) (listed side node)

-- whether the list has the number
abbrev pub has_number : ℕ → List ℕ → Bool
has_number number numbers = list_any (nat_eq number) numbers

-- whether each node that the node of a number lists on the side lists it on the other side
abbrev pub answered : Side → List LifetimeNode → ℕ → LifetimeNode → Bool
answered side nodes number node =
    list_all (λ to. nat_le (length nodes) to || has_number number (listed_at (opposite_of side) nodes to)) (listed side node)
