use Rattle.bridge_tool.specs.declared.status.Status.TheVariants as status
use Rattle.bridge_tool.specs.Running.{AnswersGenerate}
use Rattle.bridge_tool.proofs.RunLemmas.{printed_text}
use Rattle.bridge_tool.proofs.program.generate.Goals as goal

pub returns-in-Ok : goal.returns-in-Ok
returns-in-Ok g c =
    let delivers = c.print_measured-printed.ensures c.args.count c.requires.most c.in-Ok.ensures in
    rw c.ended.ensures
    (printed_text (AnswersGenerate c.args.count) status.Accepted delivers.text c.print_measured-printed.result (λ whole. whole) delivers.delivered delivers.is)
