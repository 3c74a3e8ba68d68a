use Rattle.hir_number.proofs.AnswerLemmas.{fields_given}
use Rattle.hir_number.proofs.ElisionLemmas.{fields_elided}
use Rattle.hir_number.proofs.FitLemmas.{fields_arity}
use Rattle.hir_number.proofs.WithinLemmas.{if_ok_so}
use Rattle.hir_number.specs.Numbered.{AreNumberedFields, numbers_of_each}
use Rattle.hir_number.proofs.fields.number_fields.Goals as goal

pub returns-clause-numbered : goal.returns-clause-numbered
returns-clause-numbered c = λ names is. (fields_given names c.args.item.now c.number_all_fields.result (c.number_all_fields.ensures names is)).0

pub returns-clause-fault : goal.returns-clause-fault
returns-clause-fault c = λ names is. (fields_given names c.args.item.now c.number_all_fields.result (c.number_all_fields.ensures names is)).1

pub returns-clause-elision : goal.returns-clause-elision
returns-clause-elision c = λ names is none.
    fields_elided names c.args.item.now c.number_all_fields.result none
    (fields_given names c.args.item.now c.number_all_fields.result (c.number_all_fields.ensures names is)).1

pub returns-clause-arity : goal.returns-clause-arity
returns-clause-arity c = λ names is none.
    if_ok_so (AreNumberedFields names c.args.item.now) _ c.number_all_fields.result
    (λ types has. fields_arity names c.args.item.now (numbers_of_each types) none has.numbers)
    (returns-clause-numbered c names is)
