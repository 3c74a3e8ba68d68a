use Rattle.std.proofs.Common.{List, take, refl, sym, ◌∙◌, ◌<◌, subst, length}
use Rattle.std.proofs.lemmas.Result.{err_from_is_err_and}
use Rattle.bridge_ast.specs.declared.scopes.Scope.{Scope}
use Rattle.bridge_ast.specs.inside.Scopes.{Knows}
use Rattle.bridge_ast.proofs.EachLemmas.{length_front}
use Rattle.bridge_ast.proofs.ModuleLemmas.{path_first, content_first, module_kept, module_known, parent_within, pushed_after}
use Rattle.bridge_ast.proofs.scopes.scopes_of.Goals as goal

pub returns-in_err-parent-clause-told : goal.returns-in_err-parent-clause-told
returns-in_err-parent-clause-told c =
    let p = err_from_is_err_and c.from_residual.result c.from_residual.ensures.1 in
    let i = c.loop-number.number in
    let modules = c.args.modules.now in
    let known = subst (λ (scopes : List Scope). Knows scopes (take i modules))
    (sym c.as_slice.ensures.value) c.loop-number.invariant.known in
    rw (p.1, p.2)
    (path_first modules i c.index-modules-number.result c.as_slice-path.result.now c.loop-number-test.true
    c.index-modules-number.is c.as_slice-path.ensures c.in_err-parent.field-0.0 c.loop-number.invariant.none
    (c.in_err-parent.ensures.told (take i modules) known (sym (length_front modules i c.loop-number-test.true))))

pub returns-in_err-names-clause-told : goal.returns-in_err-names-clause-told
returns-in_err-names-clause-told c =
    let p = err_from_is_err_and c.from_residual-in_err-names.result c.from_residual-in_err-names.ensures.1 in
    let i = c.loop-number.number in
    let modules = c.args.modules.now in
    let known = subst (λ (scopes : List Scope). Knows scopes (take i modules))
    (sym c.as_slice.ensures.value) c.loop-number.invariant.known in
    rw (p.1, p.2)
    (content_first modules i c.index-modules-number.result c.as_slice-path.result.now c.loop-number-test.true
    c.index-modules-number.is c.as_slice-path.ensures c.in_err-names.field-0.0 c.loop-number.invariant.none
    (c.in_ok-parent.ensures.told (take i modules) known (sym (length_front modules i c.loop-number-test.true)))
    c.in_err-names.ensures.told)

pub enter-requires : goal.enter-requires
enter-requires c = λ n e.
    let i = c.loop-number.number in
    let modules = c.args.modules.now in
    let known = subst (λ (scopes : List Scope). Knows scopes (take i modules))
    (sym c.as_slice.ensures.value) c.loop-number.invariant.known in
    let inside = parent_within c.as_slice.result.now (take i modules) c.in_ok-parent.parent c.as_slice-path.result.now n known
    (c.in_ok-parent.ensures.parent (take i modules) known) e in
    subst (λ (scopes : List Scope). n < length scopes) (c.as_slice.ensures.value ∙ sym c.as_mut_slice.ensures.value) inside

pub loop-number-preserved : goal.loop-number-preserved
loop-number-preserved c =
    let i = c.loop-number.number in
    let modules = c.args.modules.now in
    let known = subst (λ (scopes : List Scope). Knows scopes (take i modules))
    (sym c.as_slice.ensures.value) c.loop-number.invariant.known in
    let counted = sym (length_front modules i c.loop-number-test.true) in
    let path = c.as_slice-path.result.now in
    let is_parent = c.in_ok-parent.ensures.parent (take i modules) known in
    let scope : Scope = record { names = c.in_ok-names.names; submodules = c.new.result; parent = c.in_ok-parent.parent } in
    let entered = subst (λ (scopes : List Scope). Knows scopes (take i modules))
    (sym c.as_mut_slice.ensures.value) c.loop-number.invariant.known in
    let all = pushed_after c.as_mut_slice.result.now c.enter.new.scopes c.loop-number.scopes.items c.push.new.self.items scope
    c.loop-number.scopes.len (take i modules) c.in_ok-parent.parent path i is_parent c.in_ok-enter.ensures
    c.as_mut_slice.ensures.len c.in_ok-push.ensures.items in
    record {
      known =
          module_known modules i c.index-modules-number.result path c.loop-number-test.true c.index-modules-number.is
          c.as_slice-path.ensures c.as_mut_slice.result.now c.enter.new.scopes c.push.new.self.items c.in_ok-parent.parent scope
          entered (c.in_ok-parent.ensures.absent (take i modules) known) is_parent c.in_ok-enter.ensures
          c.in_ok-names.ensures.indexed c.new.ensures.empty refl all;
      none =
          module_kept modules i c.index-modules-number.result c.as_slice-path.result.now c.loop-number-test.true
          c.index-modules-number.is c.as_slice-path.ensures c.loop-number.invariant.none
          (c.in_ok-parent.ensures.told (take i modules) known counted) c.in_ok-names.ensures.told;
    }
