use Rattle.std.proofs.Common.{◌&&◌, nat_eq}
use Rattle.hir_borrowing_params.specs.inside.Candidates.{passes_under}
use Rattle.hir_borrowing_params.proofs.Rows.{any_next}
use Rattle.hir_borrowing_params.proofs.answers.keys_under.Goals as goal

pub loop-key-preserved : goal.loop-key-preserved
loop-key-preserved c = λ t.
    any_next (λ k. nat_eq k t && passes_under c.args.map.now k c.args.candidate.now) c.args.keys.now c.loop-key.key-index c.key-item.result _ _ c.loop-key-test.true c.key-item.is (c.loop-key.invariant t) (c.in_ok-add_key.ensures t)
