use Rattle.std.proofs.Common.{ℕ, ◌++◌}
use Rattle.std.specs.Prelude.{codes, decimal}
use Rattle.bridge_outside.proofs.PrintingLaws.{◌⨟◌, prints_same}
use Rattle.bridge_printing.proofs.ReportLemmas.{one_more}
use Rattle.bridge_explain.proofs.lines.put_spaced.Goals as goal

pub loop-lifetime-preserved : goal.loop-lifetime-preserved
loop-lifetime-preserved g c =
    prints_same (one_more (λ (n : ℕ). codes " " ++ decimal n) c.args.lifetimes.now c.loop-lifetime.lifetime-index c.lifetime-item.result c.loop-lifetime-test.true c.lifetime-item.is)
    (c.loop-lifetime.invariant ⨟ c.put_after_space.ensures)
