use Rattle.std.proofs.Common.{◌≡◌, Ok, length, subst, sym}
use Rattle.hir_elide.specs.Generics.{all_or_fault, filled, own_numbers}
use Rattle.hir_elide.specs.inside.Standing.{IsOwn}
use Rattle.hir_elide.proofs.ArityLemmas.{own_told_long}
use Rattle.hir_elide.proofs.BelowLemmas.{first_within, own_within}
use Rattle.hir_elide.proofs.NumberingLemmas.{first_met, own_again}
use Rattle.hir_elide.proofs.numbering.Numbering.lower_own.Goals as goal

pub returns-in_ok-try_clone-in-Some-clause-told : goal.returns-in_ok-try_clone-in-Some-clause-told
returns-in_ok-try_clone-in-Some-clause-told c = λ s numbers own.
    let ls = filled c.args.lifetimes.now (length c.args.type_generics.now.nodes) in
    subst (λ ns. all_or_fault (own_numbers s.has_self s ls) ≡ Ok ns) (sym c.in_ok-try_clone-in-Some.ensures)
    (own_again s ls c.in-Some.own (subst (λ o. IsOwn o s) c.in-Some.is own))

pub returns-in-None-clause-own : goal.returns-in-None-clause-own
returns-in-None-clause-own c = λ s numbers own.
    first_met c.first_own.result c.first_own.new.self.own s _ (subst (λ o. IsOwn o s) c.in-None.is own) (c.first_own.ensures.own s numbers)

pub returns-in_ok-try_clone-in-Some-clause-arity : goal.returns-in_ok-try_clone-in-Some-clause-arity
returns-in_ok-try_clone-in-Some-clause-arity c = λ s numbers own arity.
    let ls = filled c.args.lifetimes.now (length c.args.type_generics.now.nodes) in
    own_told_long s c.args.lifetimes.now (length c.args.type_generics.now.nodes) (Ok c.in_ok-try_clone-in-Some.field-0) c.requires arity
    (subst (λ ns. all_or_fault (own_numbers s.has_self s ls) ≡ Ok ns) (sym c.in_ok-try_clone-in-Some.ensures)
    (own_again s ls c.in-Some.own (subst (λ o. IsOwn o s) c.in-Some.is own)))

pub returns-in_ok-try_clone-in-Some-clause-within : goal.returns-in_ok-try_clone-in-Some-clause-within
returns-in_ok-try_clone-in-Some-clause-within c = λ s numbers own.
    own_within s (filled c.args.lifetimes.now (length c.args.type_generics.now.nodes)) (Ok c.in_ok-try_clone-in-Some.field-0)
    (returns-in_ok-try_clone-in-Some-clause-told c s numbers own)

pub returns-in-None-clause-within : goal.returns-in-None-clause-within
returns-in-None-clause-within c = λ s numbers own.
    first_within s (filled c.args.lifetimes.now (length c.args.type_generics.now.nodes)) c.first_own.result (subst (λ o. IsOwn o s) c.in-None.is own)
    (c.first_own.ensures.told s numbers)
