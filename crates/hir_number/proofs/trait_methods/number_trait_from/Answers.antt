use Rattle.std.proofs.Common.{Ok, Err, refl, subst}
use Rattle.std.specs.Prelude.{⊤}
use Rattle.std.proofs.lemmas.Result.{err_from_is_err_and}
use Rattle.hir_elide.specs.Occurrences.{Borrow}
use Rattle.hir_elide.specs.Phases.{Using}
use Rattle.hir_elide.specs.inside.Standing.{AtParameters}
use Rattle.hir_number.specs.inside.Threads.{Comes, borrow_run}
use Rattle.hir_number.proofs.RunLemmas.{meets_next, meets_fault}
use Rattle.hir_number.proofs.trait_methods.number_trait_from.Goals as goal

pub returns : goal.returns
returns c = λ names s is at.
    meets_next (AtParameters c.in_ok-borrow.lowerer) (λ _. ⊤) c.in_ok-borrow.borrow _ _ (Ok _)
    (subst (λ b. Comes (AtParameters c.in_ok-borrow.lowerer) c.in_ok-borrow.borrow (borrow_run (Using Borrow) b s)) c.trait_borrow_of.ensures (c.in_ok-borrow.ensures s at)) (λ t at_own.
    meets_next (AtParameters c.number_trait_inputs.new.lowerer) (λ _. ⊤) (c.in_ok-own.own, c.in_ok-own.params) _ _ (Ok _) (c.in_ok-own.ensures names t is at_own) (λ u at_end.
    meets_next (λ _. ⊤) (λ _. ⊤) (c.in_ok-output.output, c.in_ok-output.lifetimes) _ _ (Ok _) (c.in_ok-output.ensures names u is at_end) (λ v here. (refl, tt))))

pub returns-in_err-output : goal.returns-in_err-output
returns-in_err-output c = λ names s is at.
    let p = err_from_is_err_and c.from_residual-in_err-output.result c.from_residual-in_err-output.ensures.1 in
    rw (p.1, p.2)
    (meets_next (AtParameters c.in_ok-borrow.lowerer) (λ _. ⊤) c.in_ok-borrow.borrow _ _ (Err _)
    (subst (λ b. Comes (AtParameters c.in_ok-borrow.lowerer) c.in_ok-borrow.borrow (borrow_run (Using Borrow) b s)) c.trait_borrow_of.ensures (c.in_ok-borrow.ensures s at)) (λ t at_own.
    meets_next (AtParameters c.number_trait_inputs.new.lowerer) (λ _. ⊤) (c.in_ok-own.own, c.in_ok-own.params) _ _ (Err _) (c.in_ok-own.ensures names t is at_own) (λ u at_end.
    meets_fault (λ _. ⊤) _ _ _ (c.in_err-output.ensures names u is at_end))))
