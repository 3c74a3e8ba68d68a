use Rattle.std.proofs.Common.{◌≡◌, ◌≢◌, [], ◌∙◌, ap, map, subst}
use Rattle.std.specs.Prelude.{MatchBool}
use Rattle.hir_number.specs.Breaches.{broken}
use Rattle.hir_reports.specs.Store.{added}
use Rattle.hir_signatures.specs.Errors.{breach_error}
use Rattle.hir_signatures.proofs.StageLemmas.{untouched}
use Rattle.hir_signatures.proofs.signatures.test_function.Goals as goal

pub returns-clause-told : goal.returns-clause-told
returns-clause-told c = λ names is.
    c.in_ok-tell_breaches.ensures.told
    ∙ ap (λ bs. added c.args.errors.now (map breach_error bs)) (ap (map broken) c.as_slice-all.ensures.value ∙ c.in_ok-breaches.ensures names is)

pub returns-clause-fine : goal.returns-clause-fine
returns-clause-fine c = λ names is.
    subst (λ bs. MatchBool c.are_none.result (bs ≡ []) (bs ≢ [])) (ap (map broken) c.as_slice-all.ensures.value ∙ c.in_ok-breaches.ensures names is) c.are_none.ensures

pub returns-clause-untouched : goal.returns-clause-untouched
returns-clause-untouched c =
    untouched c.are_none.result (map broken c.as_slice-all.result.now) c.args.errors.now c.tell_breaches.new.errors c.are_none.ensures
    c.in_ok-tell_breaches.ensures.told
