use Rattle.hir_elide.specs.Signature.{begun}
use Rattle.hir_number.specs.inside.Runs.{trait_method_run}
use Rattle.hir_number.proofs.AnswerLemmas.{no_err, starts_so}
use Rattle.hir_number.proofs.trait_methods.number_trait_signature.Goals as goal

pub returns : goal.returns
returns c = λ names is.
    starts_so c.args.method.now.lifetimes (trait_method_run names c.args.method.now) c.number_trait_from.result
    (λ many. no_err c.in_ok-start.start _ (c.in_ok-start.ensures.too_many.1 many))
    (c.number_trait_from.ensures names (begun c.args.method.now.lifetimes) is c.in_ok-start.ensures.begins)
