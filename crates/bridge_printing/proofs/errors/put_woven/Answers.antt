use Rattle.bridge_outside.proofs.PrintingLaws.{◌⨟◌, prints_same}
use Rattle.bridge_printing.proofs.ArgumentLemmas.{piece_woven}
use Rattle.bridge_printing.proofs.errors.put_woven.Goals as goal

pub loop-place-preserved : goal.loop-place-preserved
loop-place-preserved g c =
    prints_same (piece_woven c.args.pieces.now c.args.args.now c.loop-place.place _ c.loop-place-test.true)
    (c.loop-place.invariant ⨟ c.put_piece.ensures)
