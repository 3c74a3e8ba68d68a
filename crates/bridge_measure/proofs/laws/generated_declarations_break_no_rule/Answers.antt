use Rattle.bridge_measure.proofs.MeasuredLemmas.{breaks_nothing}
use Rattle.bridge_measure.proofs.laws.generated_declarations_break_no_rule.Goals as goal

pub returns : goal.returns
returns c = breaks_nothing c.what_is_told_is_broken.ensures.every c.callables_are_read_as_declared.ensures
