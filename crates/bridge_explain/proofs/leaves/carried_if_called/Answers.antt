use Rattle.std.proofs.Common.{Some, slice_get, sym, ◌∙◌}
use Rattle.hir_borrowing_fields.specs.VisitedLeaves.{visited_leaf}
use Rattle.bridge_explain.specs.inside.Found.{IsCarriedIfCalled}
use Rattle.bridge_explain.proofs.Finding.{if_some, some_at}
use Rattle.bridge_explain.proofs.leaves.carried_if_called.Goals as goal

pub returns : goal.returns
returns c =
    let found = slice_get c.args.leaves.now c.args.number in
    if_some (λ leaf. IsCarriedIfCalled c.args.word.now leaf (Some c.lifetimes-2.result.now)) found (visited_leaf c.in-Some.leaf)
    (some_at visited_leaf c.get.result found c.in-Some.leaf c.get.ensures c.in-Some.is) (sym c.in_ok-is_called.ensures ∙ c.if-not-branch.false, c.lifetimes-2.ensures)
