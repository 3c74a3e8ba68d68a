-- What is wrong with how structs nest. Structs are the nodes of a graph, and an edge leads from each to those that it contains.
use Rattle.std.specs.Prelude.{◌≡◌, ℕ, List, ◌<◌, ◌≤◌, ◌+◌, length, Option, Some, None, slice_index_or}
use Rattle.definition_graph.specs.Reaching.{ReachesByEdges}
use Rattle.definition_graph.specs.Surveying.{IsChain, IsLongestChain}
use Rattle.hir_ids.specs.declared.ids.TypeId.{TypeId}
use Rattle.hir_nesting.specs.Structs.{struct_of_number}
use Rattle.hir_nesting.specs.declared.fault.NestingFault.{NestingFault}
use Rattle.hir_nesting.specs.declared.fault.NestingFault.TheVariants as fault

-- a struct has this fault: a chain of at least one edge leads from it to itself; or its chains end, and a longest has more
-- than 256 structs, with itself
abbrev pub HasFault : List (List ℕ) → ℕ → NestingFault → Type 0
HasFault g a fault.ContainsItself = ReachesByEdges g a a
HasFault g a fault.NestsTooDeep = (n : ℕ) × IsLongestChain g a n × (256 < n)

-- what is told of a struct: a fault that it has, or that it has none
abbrev pub TellsNesting : List (List ℕ) → ℕ → Option NestingFault → Type 0
TellsNesting g a (Some f) = HasFault g a f
TellsNesting g a None = (f : NestingFault) → HasFault g a f → ⊥

-- no struct has a fault: each chain has 256 structs at most, so none leads to itself
abbrev pub AllNestWell : List (List ℕ) → Type 0
AllNestWell g = (a : ℕ) (others : List ℕ) → a < length g → IsChain g a others → length others + 1 ≤ 256

-- there is an answer for each struct
pub record AreNestingFaults (g : List (List ℕ)) (faults : List (Option NestingFault)) : Type 0 where
  pub each : length faults ≡ length g
  pub right : (a : ℕ) → a < length g → TellsNesting g a (slice_index_or faults a None)
  pub well : ((a : ℕ) → a < length g → slice_index_or faults a None ≡ None) → AllNestWell g

-- what is told of all structs, of which the first so many are out-structs: one that has a fault, or that all nest well
abbrev pub TellsMisfit : List (List ℕ) → ℕ → Option TypeId → Type 0
TellsMisfit g out_structs None = AllNestWell g
TellsMisfit g out_structs (Some id) = (a : ℕ) × (a < length g) × (id ≡ struct_of_number out_structs a) × ((f : NestingFault) × HasFault g a f)
