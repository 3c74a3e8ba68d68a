-- What holds an input, for which returned lifetimes. In the example of `Skeletons` the input `mark` is held for 'a at both
-- lifetimes of `Mark`, and for 'b at its second alone.
use Rattle.std.specs.Prelude.{ℕ, List, ◌++◌, map, Bool, true, false, Option, Some, option_map}
use Rattle.std.specs.List.{filter_map}
use Rattle.std.specs.Ordering.{nat_cmp}
use Rattle.std.specs.BTreeMap as by_key
use Rattle.std.specs.BTreeMap.{BTreeMap}
use Rattle.std.specs.BTreeSet as sorted
use Rattle.std.specs.BTreeSet.{BTreeSet}
use Rattle.hir_life.specs.Environment.{Environment}
use Rattle.hir_ids.specs.declared.ids.TypeId.{TypeId}
use Rattle.hir_context.specs.Lookups.{environment_at}
use Rattle.hir_context.specs.declared.parts.Definitions.{Definitions}
use Rattle.hir_skeleton.specs.Skeletons.{Skeleton}
use Rattle.hir_skeleton.specs.Edges.{ShallowEdge, Whole, Position, shallow_edges}
use Rattle.hir_borrowing_params.specs.declared.edges.BorrowedLifetimeInfo.{BorrowedLifetimeInfo}
use Rattle.hir_borrowing_params.specs.declared.edges.LifetimeEdge.{LifetimeEdge}
use Rattle.hir_borrowing_params.specs.declared.edges.LifetimeEdgeKind.{LifetimeEdgeKind}
use Rattle.hir_borrowing_params.specs.declared.edges.LifetimeEdgeKind.TheVariants as kind

-- what of an input is held: an opaque; a slice; or all that a struct with this environment borrows for its lifetime of
-- this number, and whether it stands in an option
pub data EdgeKind : Type 0 where
  OfOpaque : EdgeKind
  OfSlice : EdgeKind
  OfStruct : Environment → ℕ → Bool → EdgeKind

-- the same with the name of the input
pub record NamedEdge : Type 0 where
  pub name : List ℕ
  pub kind : EdgeKind

-- the edges that the code has
abbrev pub kind_shown : LifetimeEdgeKind → EdgeKind
kind_shown kind.OpaqueParam = OfOpaque
kind_shown kind.SliceParam = OfSlice
kind_shown (kind.StructLifetime env d optional) = OfStruct env.now d optional

abbrev pub edge_shown : LifetimeEdge → NamedEdge
edge_shown edge = record { name = edge.param_name.now; kind = kind_shown edge.kind }

-- what is kept of a returned lifetime: the lifetimes that outlive it, and the edges that hold inputs for it
pub record HeldFor : Type 0 where
  pub longer : BTreeSet ℕ
  pub edges : List NamedEdge

abbrev pub held_for : BorrowedLifetimeInfo → HeldFor
held_for info = record { longer = info.all_longer_lifetimes; edges = map edge_shown info.incoming_edges.items }

-- whether a number is in the set
abbrev pub is_in : BTreeSet ℕ → ℕ → Bool
is_in set l = sorted.contains nat_cmp set l

-- what a map has for a returned lifetime
abbrev pub info_under : BTreeMap ℕ BorrowedLifetimeInfo → ℕ → Option BorrowedLifetimeInfo
info_under m t = by_key.get nat_cmp m t

abbrev pub held_under : BTreeMap ℕ BorrowedLifetimeInfo → ℕ → Option HeldFor
held_under m t = option_map held_for (info_under m t)

-- what is held of an input that is no struct: a slice or an opaque
abbrev pub whole_kind : Bool → EdgeKind
whole_kind true = OfSlice
whole_kind false = OfOpaque

-- a shallow edge, with the environment of its struct
abbrev pub edge_kind_of : Definitions → Bool → ShallowEdge TypeId → Option EdgeKind
edge_kind_of defs is_slice Whole = Some (whole_kind is_slice)
edge_kind_of defs is_slice (Position id d optional) = option_map (λ env. OfStruct env d optional) (environment_at defs id)

-- what is held of an input that is a slice or isn't, and stands in an option or doesn't: its shallow edges under a test
abbrev pub input_edges : Definitions → Bool → Bool → Skeleton TypeId → (ℕ → Bool) → List EdgeKind
input_edges defs is_slice optional s test = filter_map (edge_kind_of defs is_slice) (shallow_edges test optional s)

abbrev pub named_edge : List ℕ → EdgeKind → NamedEdge
named_edge name kind = record { name = name; kind = kind }

-- the same, where the input holds besides, by its name, what it has under the test of the lifetimes that outlive
abbrev pub holding : List ℕ → ((ℕ → Bool) → List EdgeKind) → HeldFor → HeldFor
holding name edges h = record h { edges = h.edges ++ map (named_edge name) (edges (is_in h.longer)) }
