use Rattle.hir_elide.specs.Signature.{begun}
use Rattle.hir_number.specs.inside.Runs.{signature_run}
use Rattle.hir_number.proofs.AnswerLemmas.{no_err, starts_so}
use Rattle.hir_number.proofs.signature.number_signature.Goals as goal

pub returns : goal.returns
returns c = λ names is.
    starts_so c.args.declared.now (signature_run names c.args.receiver.now c.args.params.now c.args.output.now) c.number_from.result
    (λ many. no_err c.in_ok-start.start _ (c.in_ok-start.ensures.too_many.1 many))
    (c.number_from.ensures names (begun c.args.declared.now) is c.in_ok-start.ensures.begins)
