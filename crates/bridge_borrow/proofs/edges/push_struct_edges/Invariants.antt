use Rattle.std.proofs.Common.{◌≡◌, ◌++◌, drop}
use Rattle.hir_borrowing_params.specs.Edges.{is_in}
use Rattle.bridge_borrow.specs.inside.Edges.{edges_of_struct}
use Rattle.bridge_borrow.proofs.edges.push_struct_edges.Given as goal

-- the edges with those of the arguments that are left are all
abbrev pub invariant-loop-number : goal.invariant-loop-number
invariant-loop-number l =
    l.edges ++ edges_of_struct l.input (is_in l.longer) l.optional l.number (drop l.number l.args)
    ≡ l.fn.edges ++ edges_of_struct l.input (is_in l.longer) l.optional 0 l.args
