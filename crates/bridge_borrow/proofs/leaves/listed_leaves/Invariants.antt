use Rattle.std.proofs.Common.{◌≡◌, ◌++◌, drop}
use Rattle.hir_borrowing_params.specs.Edges.{is_in}
use Rattle.bridge_borrow.specs.inside.Returned.{passing_paths}
use Rattle.bridge_borrow.proofs.leaves.listed_leaves.Given as goal

-- the paths with those of the leaves that are left are all
abbrev pub invariant-loop-number : goal.invariant-loop-number
invariant-loop-number l =
    l.leaves ++ passing_paths l.receiver (is_in l.longer) (drop l.number l.fields) ≡ passing_paths l.receiver (is_in l.longer) l.fields
