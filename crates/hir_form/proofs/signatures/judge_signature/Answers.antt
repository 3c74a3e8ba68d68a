use Rattle.std.proofs.Common.{sym, ◌∙◌}
use Rattle.hir_form.proofs.SignatureLemmas.{signature_given}
use Rattle.hir_form.proofs.signatures.judge_signature.Goals as goal

pub accept_signature-requires : goal.accept_signature-requires
accept_signature-requires c = λ h. signature_given c.args.support.now c.args.config c.args.catalog.now c.args.written c.args.signature.now (sym c.in_ok-faults.ensures ∙ h)
