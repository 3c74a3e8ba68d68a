use Rattle.bridge_outside.proofs.PrintingLaws.{prints_nothing, prints_same}
use Rattle.bridge_printing.proofs.ArgumentLemmas.{none_before}
use Rattle.bridge_printing.proofs.errors.put_argument.Goals as goal

pub returns-in-None : goal.returns-in-None
returns-in-None g c = prints_same (none_before c.args.args.now c.args.place c.if-place-eq0.false c.in-None.ensures.lookup.3) prints_nothing
