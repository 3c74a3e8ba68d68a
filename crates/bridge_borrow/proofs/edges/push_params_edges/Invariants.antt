use Rattle.std.proofs.Common.{◌≡◌, ◌++◌, drop}
use Rattle.hir_borrowing_params.specs.Edges.{is_in}
use Rattle.bridge_borrow.specs.inside.Edges.{params_edges}
use Rattle.bridge_borrow.proofs.edges.push_params_edges.Given as goal

-- the edges with those of the parameters that are left are all
abbrev pub invariant-loop-number : goal.invariant-loop-number
invariant-loop-number l =
    l.edges ++ params_edges (is_in l.longer) l.number (drop l.number l.params) ≡ l.fn.edges ++ params_edges (is_in l.longer) 0 l.params
