use Rattle.hir_borrowing_params.specs.inside.Pushing.{PushedUpTo}
use Rattle.hir_borrowing_params.proofs.store.push_each.Given as goal

abbrev pub invariant-loop-key : goal.invariant-loop-key
invariant-loop-key l = PushedUpTo l.param_name l.candidates l.keys l.key-index l.initial.map l.map
