use Rattle.std.proofs.Common.{Some, ap, ◌∙◌}
use Rattle.hir_methods.proofs.MadeLemmas.{headed_made}
use Rattle.hir_methods.proofs.headings.lower_heading.Goals as goal

pub returns-clause-made : goal.returns-clause-made
returns-clause-made g c = λ none.
    c.headed.ensures
    ∙ headed_made c.in_ok-docs.docs c.args.name.now c.args.abi_name.now _ _ _ _ c.in_ok-name.name c.in_ok-abi_name.abi_name c.in_ok-name.ensures.made
    c.in_ok-abi_name.ensures.made none
    ∙ ap (λ docs. Some (record { docs = docs; name = c.args.name.now; abi_name = c.args.abi_name.now })) c.in_ok-docs.ensures.made
