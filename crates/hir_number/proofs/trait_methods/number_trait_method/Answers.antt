use Rattle.hir_number.specs.Numbered.{IsNumberedTraitMethod, trait_numbers_of}
use Rattle.hir_number.specs.Signatures.{trait_method_uses}
use Rattle.hir_number.proofs.WithinLemmas.{if_ok_so, numbers_within}
use Rattle.hir_number.proofs.AnswerLemmas.{trait_method_given}
use Rattle.hir_number.proofs.ElisionLemmas.{trait_method_elided}
use Rattle.hir_number.proofs.FitLemmas.{trait_method_arity}
use Rattle.hir_number.proofs.trait_methods.number_trait_method.Goals as goal

pub returns-clause-numbered : goal.returns-clause-numbered
returns-clause-numbered c = λ names is. (trait_method_given names c.args.method.now c.number_trait_signature.result (c.number_trait_signature.ensures names is)).0

pub returns-clause-fault : goal.returns-clause-fault
returns-clause-fault c = λ names is. (trait_method_given names c.args.method.now c.number_trait_signature.result (c.number_trait_signature.ensures names is)).1

pub returns-clause-elision : goal.returns-clause-elision
returns-clause-elision c = λ names owner is none.
    trait_method_elided names owner c.args.method.now c.number_trait_signature.result none
    (trait_method_given names c.args.method.now c.number_trait_signature.result (c.number_trait_signature.ensures names is)).1

pub returns-clause-within : goal.returns-clause-within
returns-clause-within c = λ names is.
    if_ok_so (IsNumberedTraitMethod names c.args.method.now) _ c.number_trait_signature.result
    (λ n has. numbers_within c.args.method.now.lifetimes (trait_method_uses names c.args.method.now) (trait_numbers_of n) n.lifetimes has.numbers has.lifetimes)
    (returns-clause-numbered c names is)

pub returns-clause-arity : goal.returns-clause-arity
returns-clause-arity c = λ names owner is none.
    if_ok_so (IsNumberedTraitMethod names c.args.method.now) _ c.number_trait_signature.result
    (λ n has. trait_method_arity names owner c.args.method.now (trait_numbers_of n) none has.numbers)
    (returns-clause-numbered c names is)
