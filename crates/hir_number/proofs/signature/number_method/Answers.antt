use Rattle.std.proofs.Common.{ap, ◌∙◌}
use Rattle.hir_number.specs.Numbered.{IsNumberedMethod, numbers_of}
use Rattle.hir_number.specs.Signatures.{method_uses, without_writer}
use Rattle.hir_number.proofs.WithinLemmas.{if_ok_so, numbers_within}
use Rattle.hir_number.proofs.AnswerLemmas.{method_given}
use Rattle.hir_number.proofs.ElisionLemmas.{method_elided}
use Rattle.hir_number.proofs.FitLemmas.{method_arity}
use Rattle.hir_number.proofs.signature.number_method.Goals as goal

pub returns-clause-numbered : goal.returns-clause-numbered
returns-clause-numbered c = λ names is.
    (method_given names c.args.method.now c.before_writer-params.result.now c.number_signature.result (c.before_writer-params.ensures ∙ ap without_writer c.as_slice.ensures) (c.number_signature.ensures names is)).0

pub returns-clause-fault : goal.returns-clause-fault
returns-clause-fault c = λ names is.
    (method_given names c.args.method.now c.before_writer-params.result.now c.number_signature.result (c.before_writer-params.ensures ∙ ap without_writer c.as_slice.ensures) (c.number_signature.ensures names is)).1

pub returns-clause-elision : goal.returns-clause-elision
returns-clause-elision c = λ names owner is none.
    method_elided names owner c.args.method.now c.number_signature.result none
    (method_given names c.args.method.now c.before_writer-params.result.now c.number_signature.result (c.before_writer-params.ensures ∙ ap without_writer c.as_slice.ensures) (c.number_signature.ensures names is)).1

pub returns-clause-within : goal.returns-clause-within
returns-clause-within c = λ names is.
    if_ok_so (IsNumberedMethod names c.args.method.now) _ c.number_signature.result
    (λ n has. numbers_within c.args.method.now.lifetime_env (method_uses names c.args.method.now) (numbers_of n) n.lifetimes has.numbers has.lifetimes)
    (returns-clause-numbered c names is)

pub returns-clause-arity : goal.returns-clause-arity
returns-clause-arity c = λ names owner is none.
    if_ok_so (IsNumberedMethod names c.args.method.now) _ c.number_signature.result
    (λ n has. method_arity names owner c.args.method.now (numbers_of n) none has.numbers)
    (returns-clause-numbered c names is)
