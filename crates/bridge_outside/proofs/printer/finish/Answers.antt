use Rattle.std.proofs.Common.{sym, ◌∙◌}
use Rattle.bridge_outside.proofs.printer.finish.Goals as goal

pub returns-in-Some-clause-end : goal.returns-in-Some-clause-end
returns-in-Some-clause-end g c = sym c.fault.ensures ∙ c.in-Some.is
