-- What may be borrowed of a method, whose leaves have any names. In the example of the crate's head this is the same of `open` whatever its
-- receiver is called.
use Rattle.std.specs.Prelude.{◌≡◌, ℕ, List, map, Bool, Some, is_some}
use Rattle.std.specs.List.{enumerate_from, filter, flat_map}
use Rattle.hir_borrowing_params.specs.Edges.{HeldFor}
use Rattle.hir_borrowing_params.specs.Keys.{IsStart}
use Rattle.hir_borrowing_params.specs.Visitors.{kept_under}
use Rattle.hir_borrowing_params.specs.declared.visitor.BorrowingParamVisitor.{BorrowingParamVisitor}
use Rattle.hir_definitions.specs.declared.methods.Method.{Method}
use Rattle.hir_life.specs.Environment.{Environment, longer_of}
use Rattle.hir_skeleton.specs.Leaves.{TellsLonger}
use Rattle.hir_skeleton.specs.NamedLeaves.{NamedLeaf}
use Rattle.bridge_report.specs.Borrowings.{edges_of_input, leaf_path, passes}
use Rattle.bridge_report.specs.InContext.{callable_inputs}
use Rattle.bridge_report.specs.declared.report.LeafPath.{LeafPath}
use Rattle.bridge_report.specs.declared.report.ReturnedLifetime.{ReturnedLifetime}

-- the visitor keeps what outlives t
pub record KeepsLonger (env : Environment) (visitor : BorrowingParamVisitor) (t : ℕ) : Type 0 where
  pub kept : HeldFor
  pub there : kept_under visitor t ≡ Some kept
  pub start : IsStart env t kept

-- the paths of the leaves that pass
abbrev pub passing_paths : Bool → (ℕ → Bool) → List NamedLeaf → List LeafPath
passing_paths receiver test leaves = map (λ leaf. leaf_path receiver leaf.path) (filter (passes test) leaves)

-- what may be borrowed under t of a method that has these leaves
pub record IsListedUnder (m : Method) (leaves : List NamedLeaf) (returned : ReturnedLifetime) (t : ℕ) : Type 0 where
  pub lifetime : returned.lifetime ≡ t
  pub test : ℕ → Bool
  pub tells : TellsLonger (longer_of m.lifetime_env) t test
  pub paths : returned.leaves ≡ passing_paths (is_some m.param_self) test leaves
  pub edges : returned.edges ≡ flat_map (edges_of_input (is_some m.param_self) test) (enumerate_from 0 (callable_inputs m))
