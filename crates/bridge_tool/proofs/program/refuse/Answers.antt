use Rattle.std.proofs.Common.{refl}
use Rattle.bridge_printing.specs.Lines.{lines}
use Rattle.bridge_tool.specs.declared.status.Status.TheVariants as status
use Rattle.bridge_tool.specs.Running.{AnswersExplain}
use Rattle.bridge_tool.specs.inside.Answering.{TellsOf}
use Rattle.bridge_tool.proofs.RunLemmas.{printed_text}
use Rattle.bridge_tool.proofs.program.refuse.Goals as goal

pub returns-clause-check : goal.returns-clause-check
returns-clause-check g c = λ input refused.
    rw c.ended.ensures
    (printed_text (TellsOf input) status.Refused (lines c.args.reports.now) c.print_reports-printed.result (λ whole. whole) c.print_reports-printed.ensures
    (c.args.reports.now, refused, refl))

pub returns-clause-explain : goal.returns-clause-explain
returns-clause-explain g c = λ question bytes input spells refused.
    rw c.ended.ensures
    (printed_text (AnswersExplain question bytes) status.Refused (lines c.args.reports.now) c.print_reports-printed.result (λ whole. whole)
    c.print_reports-printed.ensures (input, c.args.reports.now, spells, refused, refl))
