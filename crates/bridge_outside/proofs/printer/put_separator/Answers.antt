use Rattle.std.proofs.Common.{◌≡◌, ap, arith}
use Rattle.bridge_outside.specs.Printing.{separator_at}
use Rattle.bridge_outside.proofs.PrintingLaws.{prints_nothing, prints_same}
use Rattle.bridge_outside.proofs.printer.put_separator.Goals as goal

pub returns-else-place-gt0 : goal.returns-else-place-gt0
returns-else-place-gt0 g c =
    let first : 0 ≡ c.args.place = omega arith in
    prints_same (ap (separator_at c.args.separator.now) first) prints_nothing
