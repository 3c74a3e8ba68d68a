use Rattle.std.proofs.Common.{ap, ◌∙◌}
use Rattle.hir_methods.proofs.Outcomes.{and_so}
use Rattle.hir_reports.specs.Store.{added}
use Rattle.hir_items.proofs.PartLemmas.{zero_size}
use Rattle.hir_items.proofs.structs.tell_zero_size.Goals as goal

pub returns-clause-told : goal.returns-clause-told
returns-clause-told c =
    and_so c.tell_if.result (λ told. told ∙ ap (added c.args.errors.now) (zero_size c.has_methods_alone.result c.args.item.now.fields c.args.item.now.methods c.has_methods_alone.ensures)) c.tell_if.ensures.told
