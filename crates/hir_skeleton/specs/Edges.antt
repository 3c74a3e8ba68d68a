-- What holds an input while something that was returned is used, one level deep; backends go on from struct to struct.
-- In the example of `Skeletons` these are for `mark` both positions of `Mark` under 'a, and the second alone under 'b.
use Rattle.std.specs.Prelude.{◌≡◌, ℕ, List, [], ◌∷◌, Bool, cond, Option, Some, None, slice_get}
use Rattle.std.specs.List.{Contains, filter_map, list_any, enumerate_from}
use Rattle.hir_life.specs.declared.maybe_static.MaybeStatic.{MaybeStatic}
use Rattle.hir_life.specs.declared.maybe_static.MaybeStatic.TheVariants.{NonStatic}
use Rattle.hir_skeleton.specs.Skeletons.{Skeleton, Nothing, Carrier, Struct}
use Rattle.hir_skeleton.specs.Leaves.{number_passes}

-- over what structs are known by
pub data ShallowEdge (K : Type 0) : Type 0 where
  -- the input itself: a borrowed opaque or a slice
  Whole : ShallowEdge K
  -- all that a struct borrows for its lifetime of this number; and whether the struct stands in an option
  Position : K → ℕ → Bool → ShallowEdge K

-- the edge at the position of this argument, where it is a number that passes
abbrev pub edge_at : {K : Type 0} → (ℕ → Bool) → Bool → K → ℕ × MaybeStatic ℕ → Option (ShallowEdge K)
edge_at test optional key arg = cond (number_passes test arg.1) (Some (Position key arg.0 optional)) None

-- the edges of an input that stands in an option or doesn't
abbrev pub shallow_edges : {K : Type 0} → (ℕ → Bool) → Bool → Skeleton K → List (ShallowEdge K)
shallow_edges test optional Nothing = []
shallow_edges test optional (Carrier lifetimes) = cond (list_any (number_passes test) lifetimes) (Whole ∷ []) []
shallow_edges test optional (Struct key args) = filter_map (edge_at test optional key) (enumerate_from 0 args)

-- the rest of a path leads on through a field to something that is borrowed for the lifetime d of the definition: an
-- opaque or a slice that carries d, where the path ends; or a struct, at a position whose argument is d
abbrev pub LeadsWithin : {K : Type 0} → (K → ℕ → Type 0) → List ℕ → ℕ → Skeleton K → Type 0
LeadsWithin on rest d Nothing = ⊥
LeadsWithin on rest d (Carrier lifetimes) = (rest ≡ []) × Contains lifetimes (NonStatic d)
LeadsWithin on rest d (Struct key args) = (e : ℕ) × (slice_get args e ≡ Some (NonStatic d)) × on key e

-- the path leads from a struct, through its field of the first number, to something that is borrowed for the struct's
-- lifetime d: the path 0 from `Mark` for 'x, and for 'y
abbrev pub LeadsDown : {K : Type 0} → (K → List (Skeleton K)) → List ℕ → K → ℕ → Type 0
LeadsDown fields_of [] key d = ⊥
LeadsDown {K} fields_of (i ∷ rest) key d =
    (field : Skeleton K) × (slice_get (fields_of key) i ≡ Some field) × LeadsWithin (LeadsDown fields_of rest) rest d field

-- the path is one of those that an edge stands for, when it is followed down; no bounds are used
abbrev pub Unfolds : {K : Type 0} → (K → List (Skeleton K)) → ShallowEdge K → List ℕ → Type 0
Unfolds fields_of Whole path = path ≡ []
Unfolds fields_of (Position key d optional) path = LeadsDown fields_of path key d
