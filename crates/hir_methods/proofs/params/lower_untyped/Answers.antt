use Rattle.std.proofs.Common.{Some, ap, ◌∙◌}
use Rattle.hir_methods.proofs.MadeLemmas.{named_made}
use Rattle.hir_methods.proofs.params.lower_untyped.Goals as goal

pub returns-clause-made : goal.returns-clause-made
returns-clause-made g c = λ none.
    c.named.ensures ∙ named_made c.in_ok-attrs.attrs c.args.param.now.name _ _ c.in_ok-name.name c.in_ok-name.ensures.made none
    ∙ ap (λ attrs. Some (record { name = c.args.param.now.name; attrs = attrs })) c.in_ok-attrs.ensures.made
