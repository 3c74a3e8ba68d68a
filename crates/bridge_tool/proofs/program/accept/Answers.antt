use Rattle.bridge_tool.specs.declared.status.Status.TheVariants as status
use Rattle.bridge_tool.specs.inside.Answering.{TellsOf}
use Rattle.bridge_tool.proofs.DeclaredLemmas.{has_page}
use Rattle.bridge_tool.proofs.RunLemmas.{printed_text}
use Rattle.bridge_tool.proofs.program.accept.Goals as goal

pub returns : goal.returns
returns g c = λ input accepted.
    rw c.ended.ensures
    (printed_text (TellsOf input) status.Accepted c.print_page-printed.ensures.text c.print_page-printed.result (λ whole. whole) c.print_page-printed.ensures.delivered
    (accepted.unbroken, has_page input c.args.report.now accepted c.print_page-printed.ensures.text c.print_page-printed.ensures.page))
