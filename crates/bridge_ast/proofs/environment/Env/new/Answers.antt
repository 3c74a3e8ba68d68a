use Rattle.std.proofs.Common.{◌≡◌, List, [], sym, ap, ◌∙◌, subst}
use Rattle.std.proofs.lemmas.Result.{err_from_is_err_and}
use Rattle.bridge_decl.specs.declared.modules.Module.{Module}
use Rattle.bridge_ast.specs.EnvFaults.{IsFirst, faults_of}
use Rattle.bridge_ast.specs.Sound.{AreSound}
use Rattle.bridge_ast.proofs.FittingLemmas.{sound_in_order, order_of_sound}
use Rattle.bridge_ast.specs.declared.scopes.Scope.{Scope}
use Rattle.bridge_ast.specs.AliasCount.{alias_count}
use Rattle.bridge_ast.specs.inside.AliasEnds.{KnowsEnds}
use Rattle.bridge_ast.specs.inside.EnvIndex.{IsIndex}
use Rattle.bridge_ast.specs.inside.Scopes.{Knows}
use Rattle.bridge_ast.proofs.SoundLemmas.{sound_from, broken_by}
use Rattle.bridge_ast.proofs.environment.Env.new.Goals as goal

pub returns-in_err-scopes-clause-broken : goal.returns-in_err-scopes-clause-broken
returns-in_err-scopes-clause-broken c =
    let p = err_from_is_err_and c.from_residual.result c.from_residual.ensures.1 in
    let fault = c.in_err-scopes.field-0.0 in
    rw (p.1, p.2) (λ bad sound. broken_by fault c.args.modules.items bad (subst (λ (modules : List Module). IsFirst fault
    (faults_of modules)) c.as_slice.ensures.value c.in_err-scopes.ensures.told) (order_of_sound c.args.modules.items sound))

pub returns-clause-sound : goal.returns-clause-sound
returns-clause-sound c =
    subst AreSound (sym c.from_vec.ensures) (sound_in_order c.args.modules.items (sound_from c.args.modules.items
    (subst (λ (modules : List Module). faults_of modules ≡ []) c.as_slice.ensures.value c.in_ok-scopes.ensures.told)))

pub invariant_of-result : goal.invariant_of-result
invariant_of-result c =
    let items = c.args.modules.items in
    let lent = subst (Knows c.in_ok-scopes.scopes.items) (c.as_slice.ensures.value ∙ sym c.as_slice-3.ensures.value)
    c.in_ok-scopes.ensures.known in
    let known = subst (λ (scopes : List Scope). Knows scopes c.as_slice-3.result.now) (sym c.as_slice-4.ensures.value) lent in
    subst (IsIndex c.from_vec-2.result c.in_ok-ends.ends c.in_ok-aliases.aliases) (sym c.from_vec.ensures)
    (record {
      sound =
          sound_from items (subst (λ (modules : List Module). faults_of modules ≡ []) c.as_slice.ensures.value
          c.in_ok-scopes.ensures.told);
      known =
          subst (λ (scopes : List Scope). Knows scopes items) (sym c.from_vec-2.ensures)
          (subst (Knows c.in_ok-scopes.scopes.items) c.as_slice.ensures.value c.in_ok-scopes.ensures.known);
      ended = subst (KnowsEnds c.in_ok-ends.ends) c.as_slice-3.ensures.value (c.in_ok-ends.ensures known);
      counted = c.in_ok-aliases.ensures ∙ ap alias_count c.as_slice-2.ensures.value;
    })
