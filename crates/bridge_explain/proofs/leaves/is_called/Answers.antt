use Rattle.hir_borrowing_fields.specs.VisitedLeaves.{visited_leaf}
use Rattle.bridge_explain.proofs.Finding.{told_as_leaf}
use Rattle.bridge_explain.proofs.leaves.is_called.Goals as goal

pub returns : goal.returns
returns c = told_as_leaf c.is_shown_as.result (visited_leaf c.args.leaf.now) c.args.word.now c.is_shown_as.ensures
