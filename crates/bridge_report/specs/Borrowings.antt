-- What the result of a callable may borrow, under each lifetime that its return names: the leaves that carry the lifetime or one that
-- outlives it, and the edges that hold inputs for it. In the example of `Callables` under 'a the only leaf is `mark.page`, and `mark` is
-- held at both lifetimes of `Mark`; under 'b the leaf is the same, and `mark` is held at 'y alone.
use Rattle.std.specs.Prelude.{◌≡◌, ℕ, zero, suc, List, [], ◌∷◌, map, Bool, true, false}
use Rattle.std.specs.List.{AllZip, enumerate_from, filter, flat_map, list_any}
use Rattle.hir_life.specs.Environment.{longer_of}
use Rattle.hir_skeleton.specs.Edges.{ShallowEdge, Whole, Position, shallow_edges}
use Rattle.hir_skeleton.specs.Leaves.{TellsLonger, number_passes}
use Rattle.hir_skeleton.specs.NamedLeaves.{NamedLeaf}
use Rattle.hir_types.specs.Named.{ListsNumbers}
use Rattle.bridge_report.specs.Callables.{Callable, CallableInput}
use Rattle.bridge_report.specs.declared.report.CallableReport.{CallableReport}
use Rattle.bridge_report.specs.declared.report.InputPlace.{InputPlace}
use Rattle.bridge_report.specs.declared.report.InputPlace.TheVariants.{Receiver, Param}
use Rattle.bridge_report.specs.declared.report.LeafPath.{LeafPath}
use Rattle.bridge_report.specs.declared.report.ReportEdge.{ReportEdge}
use Rattle.bridge_report.specs.declared.report.ReportEdgeKind.{ReportEdgeKind}
use Rattle.bridge_report.specs.declared.report.ReportEdgeKind.TheVariants as kind
use Rattle.bridge_report.specs.declared.report.ReturnedLifetime.{ReturnedLifetime}

-- ---- leaves

-- the input of a number: the receiver is the first, where there is one
abbrev pub input_place : Bool → ℕ → InputPlace
input_place true zero = Receiver
input_place true (suc number) = Param number
input_place false number = Param number

-- the path of a leaf: its input, and then the fields
abbrev pub leaf_path : Bool → List ℕ → LeafPath
leaf_path receiver [] = record { input = Param 0; fields = [] }
leaf_path receiver (number ∷ fields) = record { input = input_place receiver number; fields = fields }

-- whether a number that the leaf carries passes
abbrev pub passes : (ℕ → Bool) → NamedLeaf → Bool
passes test leaf = list_any (number_passes test) leaf.carried

-- the leaves that pass, in order
abbrev pub listed_leaves : Callable → (ℕ → Bool) → List NamedLeaf
listed_leaves c test = filter (passes test) c.leaves

-- ---- edges

-- the whole of an input that is a slice or isn't
abbrev pub kind_of_whole : Bool → ReportEdgeKind
kind_of_whole true = kind.Slice
kind_of_whole false = kind.Opaque

-- what is held of it
abbrev pub edge_kind : Bool → ShallowEdge (Unit {0}) → ReportEdgeKind
edge_kind slice Whole = kind_of_whole slice
edge_kind slice (Position key d optional) = kind.Struct d optional

-- the edges of the input of a number
abbrev pub edges_of_input : Bool → (ℕ → Bool) → ℕ × CallableInput → List ReportEdge
edges_of_input receiver test numbered =
    map (λ edge. record { input = input_place receiver numbered.0; kind = edge_kind numbered.1.slice edge })
    (shallow_edges test numbered.1.optional numbered.1.skeleton)

-- those of all inputs, in order
abbrev pub held_edges : Callable → (ℕ → Bool) → List ReportEdge
held_edges c test = flat_map (edges_of_input c.receiver test) (enumerate_from 0 c.inputs)

-- ---- reports

-- the lifetimes that the return names but for 'static, ascending
abbrev pub AreReturnedNumbers : Callable → List ℕ → Type 0
AreReturnedNumbers c numbers = ListsNumbers numbers c.named

-- what may be borrowed under t
pub record IsReturned (c : Callable) (returned : ReturnedLifetime) (t : ℕ) : Type 0 where
  pub lifetime : returned.lifetime ≡ t
  -- which lifetimes outlive t
  pub test : ℕ → Bool
  pub tells : TellsLonger (longer_of c.environment) t test
  pub leaves : returned.leaves ≡ map (λ leaf. leaf_path c.receiver leaf.path) (listed_leaves c test)
  pub edges : returned.edges ≡ held_edges c test

-- what may be borrowed under each of them
pub record IsReported (c : Callable) (report : CallableReport) : Type 0 where
  pub callable : report.callable ≡ c.id
  pub numbers : List ℕ
  pub are : AreReturnedNumbers c numbers
  pub each : AllZip (IsReturned c) report.returned numbers

-- so of each callable
abbrev pub AreReported : List Callable → List CallableReport → Type 0
AreReported callables reports = AllZip IsReported callables reports
