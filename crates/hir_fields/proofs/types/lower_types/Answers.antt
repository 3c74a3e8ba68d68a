use Rattle.std.proofs.Common.{◌≡◌, ◌≢◌, [], None, ap, subst, ◌∙◌}
use Rattle.std.specs.Prelude.{MatchBool}
use Rattle.hir_number.specs.Breaches.{field_breaches}
use Rattle.hir_reports.specs.Store.{added}
use Rattle.hir_fields.proofs.TypeLemmas.{breached_given, breaches_told, given_ok, told_ok}
use Rattle.hir_fields.specs.Types.{field_types_form}
use Rattle.hir_fields.proofs.types.lower_types.Goals as goal

pub returns-then-not-branch-clause-told : goal.returns-then-not-branch-clause-told
returns-then-not-branch-clause-told g c = λ names is.
    c.in_ok-test_fields.ensures.told names is
    ∙ ap (added c.args.errors.now) (breaches_told (g.K.FieldKind.type_errors c.args.support.now c.args.catalog.now) names c.args.item.now
    (subst (λ b. MatchBool b (field_breaches names c.args.item.now ≡ []) (field_breaches names c.args.item.now ≢ [])) c.if-not-branch.true (c.in_ok-test_fields.ensures.fine names is)))

pub returns-then-not-branch-clause-given : goal.returns-then-not-branch-clause-given
returns-then-not-branch-clause-given g c = λ names is.
    breached_given (g.K.FieldKind.type_errors c.args.support.now c.args.catalog.now) names c.args.item.now (field_types_form (g.K.FieldKind.type_form c.args.catalog.now) names c.args.item.now) None
    (subst (λ b. MatchBool b (field_breaches names c.args.item.now ≡ []) (field_breaches names c.args.item.now ≢ [])) c.if-not-branch.true (c.in_ok-test_fields.ensures.fine names is))

pub returns-clause-told : goal.returns-clause-told
returns-clause-told g c = λ names is.
    let none : field_breaches names c.args.item.now ≡ [] =
    subst (λ b. MatchBool b (field_breaches names c.args.item.now ≡ []) (field_breaches names c.args.item.now ≢ [])) c.if-not-branch.false (c.in_ok-test_fields.ensures.fine names is) in
    told_ok (g.K.FieldKind.type_errors c.args.support.now c.args.catalog.now) names c.args.item.now c.judge_numbered.result c.number_each-numbered.result c.as_slice-fields.result.now c.args.errors.now
    c.test_fields.new.errors c.judge_numbered.new.errors c.as_slice-fields.ensures (c.in_ok-test_fields.ensures.told names is) none
    (λ other. record {
      idents = c.if-not-are_named.ensures.idents;
      unbreached = none;
      unnamed = c.if-not-are_named.ensures.told;
      numbered = c.number_each-numbered.ensures.numbered names is;
      elision = c.number_each-numbered.ensures.elision names is none;
      faulted = c.number_each-numbered.ensures.fault names is;
      memory = other;
    }) c.judge_numbered.ensures.memory c.judge_numbered.ensures.told

pub returns-clause-given : goal.returns-clause-given
returns-clause-given g c = λ names is.
    let none : field_breaches names c.args.item.now ≡ [] =
    subst (λ b. MatchBool b (field_breaches names c.args.item.now ≡ []) (field_breaches names c.args.item.now ≢ [])) c.if-not-branch.false (c.in_ok-test_fields.ensures.fine names is) in
    given_ok (g.K.FieldKind.type_errors c.args.support.now c.args.catalog.now) names c.args.item.now (g.K.FieldKind.type_form c.args.catalog.now) c.judge_numbered.result c.number_each-numbered.result
    c.as_slice-fields.result.now c.as_slice-fields.ensures
    (λ other. record {
      idents = c.if-not-are_named.ensures.idents;
      unbreached = none;
      unnamed = c.if-not-are_named.ensures.told;
      numbered = c.number_each-numbered.ensures.numbered names is;
      elision = c.number_each-numbered.ensures.elision names is none;
      faulted = c.number_each-numbered.ensures.fault names is;
      memory = other;
    }) c.judge_numbered.ensures.memory c.judge_numbered.ensures.given
