use Rattle.std.proofs.Common.{Some, ap, map, subst, ◌∙◌}
use Rattle.hir_docs.specs.Docs.{docs_errors}
use Rattle.hir_heads.specs.Heads.{lifetime_errors}
use Rattle.hir_heads.specs.Names.{name_errors}
use Rattle.hir_heads.specs.Told.{MadeUnlessTold}
use Rattle.hir_traits.proofs.PartLemmas.{headed_made}
use Rattle.hir_traits.specs.TraitMethods.{param_name_errors, unmarked_param}
use Rattle.hir_traits.proofs.heads.lower_head.Goals as goal

pub returns-clause-made : goal.returns-clause-made
returns-clause-made g c = λ none.
    let backend = g.V.AttributeValidator.meaning c.args.validator.now in
    let method = c.args.method.now in
    let params = map unmarked_param method.params in
    c.method_headed-head.ensures
    ∙ headed_made c.in_ok-docs.docs method.name params (docs_errors backend method.docs) (name_errors method.name) (lifetime_errors method.lifetimes) (param_name_errors method.params)
    c.in_ok-name.name c.in_ok-params.params c.in_ok-name.ensures.made
    (subst (λ ps. MadeUnlessTold (param_name_errors ps) (map unmarked_param ps) c.in_ok-params.params) c.as_slice.ensures c.in_ok-params.ensures.made) none
    ∙ ap (λ docs. Some (record { docs = docs; name = method.name; params = params })) c.in_ok-docs.ensures.made
