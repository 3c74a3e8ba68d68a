use Rattle.std.proofs.Common.{◌∙◌}
use Rattle.bridge_tool.specs.declared.status.Status.TheVariants as status
use Rattle.bridge_tool.specs.Running.{AnswersLinks}
use Rattle.bridge_tool.proofs.RunLemmas.{printed_text}
use Rattle.bridge_tool.proofs.program.tell_links.Goals as goal

pub returns-in-Ok : goal.returns-in-Ok
returns-in-Ok g c = λ bytes spells.
    rw c.ended.ensures
    (printed_text (AnswersLinks bytes) status.Accepted _ c.print_text-printed.result (λ whole. whole) c.print_text-printed.ensures
    (c.args.input.now, spells, c.as_str.ensures ∙ c.in-Ok.ensures))
