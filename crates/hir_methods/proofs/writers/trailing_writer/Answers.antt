use Rattle.std.proofs.Common.{◌∙◌}
use Rattle.hir_methods.proofs.WriterLemmas.{last_written}
use Rattle.hir_methods.proofs.writers.trailing_writer.Goals as goal

pub returns-in-Some : goal.returns-in-Some
returns-in-Some c = c.written_through.ensures ∙ last_written c.args.params.now c.in-Some.field-0-1.now c.in-Some.last.now c.in-Some.ensures.cases.0
