use Rattle.std.proofs.Common.{false}
use Rattle.std.specs.Prelude.{slice_index_or}
use Rattle.std.proofs.lemmas.List.{get_or_default}
use Rattle.hir_borrowing_params.proofs.Beginnings.{flags_next}
use Rattle.hir_borrowing_params.proofs.starts.flagged.Goals as goal

pub loop-number-preserved : goal.loop-number-preserved
loop-number-preserved c =
    let flag = slice_index_or c.args.flags.now c.loop-number.number false in
    flags_next c.args.flags.now c.loop-number.number flag c.loop-number.set c.add_flagged.new.set c.loop-number-test.true (get_or_default c.args.flags.now c.loop-number.number false flag c.loop-number-test.true)
    c.loop-number.invariant c.in_ok-add_flagged.ensures
