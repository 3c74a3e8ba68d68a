use Rattle.std.proofs.Common.{◌≡◌, ◌≢◌, [], subst}
use Rattle.std.specs.Prelude.{MatchBool}
use Rattle.hir_heads.specs.Heads.{lifetime_errors}
use Rattle.hir_number.specs.Breaches.{trait_method_breaches}
use Rattle.hir_traits.proofs.StageLemmas.{numbered_given, numbered_told}
use Rattle.hir_traits.specs.TraitTypes.{trait_judged_errors, trait_types_form}
use Rattle.hir_traits.proofs.types.lower_types.Goals as goal

pub returns-clause-told : goal.returns-clause-told
returns-clause-told g c = λ names is.
    let lowering = c.args.lowering.now in
    let method = c.args.method.now in
    let none : trait_method_breaches names c.args.place method ≡ [] =
    subst (λ b. MatchBool b (trait_method_breaches names c.args.place method ≡ []) (trait_method_breaches names c.args.place method ≢ [])) c.if-not-branch.false
    (c.in_ok-test_breaches.ensures.fine names is) in
    let unnamed : lifetime_errors method.lifetimes ≡ [] =
    subst (λ b. MatchBool b (lifetime_errors method.lifetimes ≡ []) (lifetime_errors method.lifetimes ≢ [])) c.if-not-are_named.false c.requires.named in
    numbered_told names c.args.place method (trait_judged_errors lowering.support.now lowering.config lowering.catalog.now) c.judge_numbered.result
    c.number_trait_method-numbered.result c.args.errors.now c.test_breaches.new.errors c.judge_numbered.new.errors (c.in_ok-test_breaches.ensures.told names is) none
    (λ other. record {
      unbreached = none;
      unnamed = unnamed;
      numbered = c.number_trait_method-numbered.ensures.numbered names is;
      elision = c.number_trait_method-numbered.ensures.elision names c.args.place is none;
      faulted = c.number_trait_method-numbered.ensures.fault names is;
      memory = other;
    })
    c.judge_numbered.ensures.memory c.judge_numbered.ensures.told

pub returns-clause-made : goal.returns-clause-made
returns-clause-made g c = λ names is.
    let lowering = c.args.lowering.now in
    let method = c.args.method.now in
    let none : trait_method_breaches names c.args.place method ≡ [] =
    subst (λ b. MatchBool b (trait_method_breaches names c.args.place method ≡ []) (trait_method_breaches names c.args.place method ≢ [])) c.if-not-branch.false
    (c.in_ok-test_breaches.ensures.fine names is) in
    let unnamed : lifetime_errors method.lifetimes ≡ [] =
    subst (λ b. MatchBool b (lifetime_errors method.lifetimes ≡ []) (lifetime_errors method.lifetimes ≢ [])) c.if-not-are_named.false c.requires.named in
    numbered_given names c.args.place method (trait_judged_errors lowering.support.now lowering.config lowering.catalog.now) (trait_types_form lowering.catalog.now) c.judge_numbered.result
    c.number_trait_method-numbered.result
    (λ other. record {
      unbreached = none;
      unnamed = unnamed;
      numbered = c.number_trait_method-numbered.ensures.numbered names is;
      elision = c.number_trait_method-numbered.ensures.elision names c.args.place is none;
      faulted = c.number_trait_method-numbered.ensures.fault names is;
      memory = other;
    })
    c.judge_numbered.ensures.memory c.judge_numbered.ensures.made
