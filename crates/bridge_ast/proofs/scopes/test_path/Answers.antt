use Rattle.std.proofs.lemmas.Result.{err_from_is_err_and}
use Rattle.bridge_ast.proofs.ScopeLemmas.{path_stopped, path_passed, is_under}
use Rattle.bridge_ast.proofs.scopes.test_path.Goals as goal

pub returns-in_err-test_submodule-in-Some-clause-told : goal.returns-in_err-test_submodule-in-Some-clause-told
returns-in_err-test_submodule-in-Some-clause-told c = λ before known at_end.
    let r = c.from_residual-in_err-test_submodule-in-Some in
    let p = err_from_is_err_and r.result r.ensures.1 in
    rw (p.1, p.2)
    (path_stopped c.in_err-test_submodule-in-Some.field-0.0 before c.args.path.now c.in-Some.parent.now c.in-Some.name.now
    c.in-Some.ensures.cases.0 (c.in_ok-test_new_path.ensures.told before known at_end)
    (c.in_err-test_submodule-in-Some.ensures.told before known at_end))

pub returns-in_ok-test_submodule-in-Some-clause-told : goal.returns-in_ok-test_submodule-in-Some-clause-told
returns-in_ok-test_submodule-in-Some-clause-told c = λ before known at_end.
    path_passed before c.args.path.now c.in-Some.parent.now c.in-Some.name.now c.in-Some.ensures.cases.0
    (c.in_ok-test_new_path.ensures.told before known at_end) (c.in_ok-test_submodule-in-Some.ensures.told before known at_end)

pub returns-in_ok-test_submodule-in-Some-clause-parent : goal.returns-in_ok-test_submodule-in-Some-clause-parent
returns-in_ok-test_submodule-in-Some-clause-parent c = λ before known. (
  c.in-Some.name.now,
  is_under before c.args.path.now c.in-Some.parent.now c.in-Some.name.now
      c.in_ok-test_submodule-in-Some.field-0 c.in-Some.ensures.cases.0 (c.in_ok-test_submodule-in-Some.ensures.found before
      known),
)
