use Rattle.std.proofs.Common.{sym, ◌∙◌}
use Rattle.hir_number.proofs.WriterLemmas.{last_stays, last_writes}
use Rattle.hir_number.proofs.writer.before_writer.Goals as goal

pub returns-then-is_written : goal.returns-then-is_written
returns-then-is_written c =
    last_writes c.args.params.now c.in-Some.rest.now c.in-Some.last.now c.in-Some.ensures.cases.0 (sym c.is_written.ensures ∙ c.if-is_written.true)

pub returns-else-is_written : goal.returns-else-is_written
returns-else-is_written c =
    last_stays c.args.params.now c.in-Some.rest.now c.in-Some.last.now c.in-Some.ensures.cases.0 (sym c.is_written.ensures ∙ c.if-is_written.false)
