use Rattle.std.proofs.Common.{◌≡◌, subst}
use Rattle.std.specs.Prelude.{⊤, MatchBool, OnErr}
use Rattle.hir_signatures.proofs.signatures.lower_function_signature.Goals as goal

pub returns-clause-err : goal.returns-clause-err
returns-clause-err c =
    subst (λ held. OnErr c.lower_numbered.result (c.lower_numbered.new.errors ≡ held))
    (subst (λ b. MatchBool b (c.test_function.new.errors ≡ c.args.errors.now) ⊤) c.if-not-branch.false c.in_ok-test_function.ensures.untouched)
    c.lower_numbered.ensures.err
