-- The page that is printed of callables: what the result of each may borrow. In the example of `Callables` it is
--     callable Page::open
--       lifetime 0 a: mark.page
--       edges: struct mark 0, struct mark 1
--       lifetime 1 b: mark.page
--       edges: struct mark 1
--     ok 1
-- where `mark` stands in an option, so that ` optional` follows each edge.
use Rattle.std.specs.Prelude.{◌≡◌, ℕ, List, [], ◌++◌, ◌==◌, length, map, codes, decimal, true, false, Bool}
use Rattle.std.specs.List.{AllZip, flat_map, join_by}
use Rattle.hir_life.specs.Environment.{longer_of}
use Rattle.hir_life.specs.Naming.{printed_name}
use Rattle.hir_reports.specs.Places.{context_text}
use Rattle.hir_skeleton.specs.Edges.{ShallowEdge, Whole, Position, shallow_edges}
use Rattle.hir_skeleton.specs.Leaves.{TellsLonger}
use Rattle.hir_skeleton.specs.NamedLeaves.{NamedLeaf}
use Rattle.bridge_report.specs.Borrowings.{AreReturnedNumbers, listed_leaves}
use Rattle.bridge_report.specs.Callables.{Callable, CallableInput}

-- ---- lists

-- the space before a list that isn't empty
abbrev pub opening : Bool → List ℕ
opening true = []
opening false = codes " "

-- the texts of a list, with a comma between two, after a space where there are any
abbrev pub list_text : {A : Type 0} → (A → List ℕ) → List A → List ℕ
list_text text_of xs = opening (length xs == 0) ++ join_by text_of (codes ", ") xs

-- ---- leaves and edges

-- a leaf: the names along its path
abbrev pub leaf_text : NamedLeaf → List ℕ
leaf_text leaf = join_by (λ name. name) (codes ".") leaf.names

abbrev pub optional_text : Bool → List ℕ
optional_text true = codes " optional"
optional_text false = []

-- the whole of an input that is a slice or isn't
abbrev pub whole_text : Bool → List ℕ
whole_text true = codes "slice "
whole_text false = codes "opaque "

-- an edge of an input that has this name
abbrev pub edge_text : List ℕ → Bool → ShallowEdge (Unit {0}) → List ℕ
edge_text name slice Whole = whole_text slice ++ name
edge_text name slice (Position key d optional) = codes "struct " ++ name ++ codes " " ++ decimal d ++ optional_text optional

-- the edges of an input
abbrev pub edge_texts : (ℕ → Bool) → CallableInput → List (List ℕ)
edge_texts test input = map (edge_text input.name input.slice) (shallow_edges test input.optional input.skeleton)

-- ---- lines

-- the number and the name of a returned lifetime, and the leaves that pass
abbrev pub leaves_line : Callable → ℕ → (ℕ → Bool) → List ℕ
leaves_line c t test =
    codes "  lifetime " ++ decimal t ++ codes " " ++ printed_name c.environment t ++ codes ":" ++ list_text leaf_text (listed_leaves c test)
    ++ codes "\n"

-- its edges
abbrev pub edges_line : Callable → (ℕ → Bool) → List ℕ
edges_line c test = codes "  edges:" ++ list_text (λ text. text) (flat_map (edge_texts test) c.inputs) ++ codes "\n"

-- both lines of t, by a test of what outlives it
pub record IsReturnedText (c : Callable) (t : ℕ) (text : List ℕ) : Type 0 where
  pub test : ℕ → Bool
  pub tells : TellsLonger (longer_of c.environment) t test
  pub is : text ≡ leaves_line c t test ++ edges_line c test

-- the line of a callable, and those of the lifetimes that its return names
pub record IsCallableText (c : Callable) (text : List ℕ) : Type 0 where
  pub numbers : List ℕ
  pub are : AreReturnedNumbers c numbers
  pub parts : List (List ℕ)
  pub each : AllZip (IsReturnedText c) numbers parts
  pub is : text ≡ (codes "callable " ++ context_text c.place ++ codes "\n") ++ flat_map (λ part. part) parts

-- the whole page, whose last line says how many callables there are
pub record IsPage (callables : List Callable) (text : List ℕ) : Type 0 where
  pub parts : List (List ℕ)
  pub each : AllZip IsCallableText callables parts
  pub is : text ≡ flat_map (λ part. part) parts ++ (codes "ok " ++ decimal (length callables) ++ codes "\n")
