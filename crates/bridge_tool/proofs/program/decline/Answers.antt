use Rattle.bridge_tool.specs.declared.status.Status.TheVariants as status
use Rattle.bridge_tool.specs.Declining.{fault_line}
use Rattle.bridge_tool.specs.Running.{AnswersCheck, AnswersExplain, AnswersLinks}
use Rattle.bridge_tool.proofs.RunLemmas.{declined, printed_text}
use Rattle.bridge_tool.proofs.program.decline.Goals as goal

pub returns-in-NotDeclarations-clause-check : goal.returns-in-NotDeclarations-clause-check
returns-in-NotDeclarations-clause-check g c = λ bytes told refuses.
    let found = c.in-NotDeclarations in
    rw c.ended.ensures
    (printed_text (AnswersCheck bytes) status.NotDeclarations (fault_line found.kind c.as_str.result.now) c.print_fault-printed.result (λ whole. whole) c.print_fault-printed.ensures
    (declined bytes c.args.fault.now found.kind found.pointer c.as_str.result.now found.is c.as_str.ensures told refuses))

pub returns-in-NotDeclarations-clause-explain : goal.returns-in-NotDeclarations-clause-explain
returns-in-NotDeclarations-clause-explain g c = λ bytes told refuses question.
    let found = c.in-NotDeclarations in
    rw c.ended.ensures
    (printed_text (AnswersExplain question bytes) status.NotDeclarations (fault_line found.kind c.as_str.result.now) c.print_fault-printed.result (λ whole. whole) c.print_fault-printed.ensures
    (declined bytes c.args.fault.now found.kind found.pointer c.as_str.result.now found.is c.as_str.ensures told refuses))

pub returns-in-NotDeclarations-clause-links : goal.returns-in-NotDeclarations-clause-links
returns-in-NotDeclarations-clause-links g c = λ bytes told refuses.
    let found = c.in-NotDeclarations in
    rw c.ended.ensures
    (printed_text (AnswersLinks bytes) status.NotDeclarations (fault_line found.kind c.as_str.result.now) c.print_fault-printed.result (λ whole. whole) c.print_fault-printed.ensures
    (declined bytes c.args.fault.now found.kind found.pointer c.as_str.result.now found.is c.as_str.ensures told refuses))
