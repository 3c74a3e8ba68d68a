use Rattle.hir_fields.proofs.HeadLemmas.{head_absent, head_made}
use Rattle.hir_fields.proofs.heads.lower_head.Goals as goal

pub returns-in-Some-clause-made : goal.returns-in-Some-clause-made
returns-in-Some-clause-made g c = λ none.
    head_made (g.V.AttributeValidator.meaning c.args.validator.now) c.args.context c.args.start c.args.name.now c.args.docs.now c.args.attrs.now c.in_ok-name.name c.in_ok-name.ensures.made c.in-Some.name
    c.in_ok-notes.notes c.in-Some.is c.in_ok-notes.ensures.made none

pub returns-in-None-clause-made : goal.returns-in-None-clause-made
returns-in-None-clause-made g c = λ none.
    absurd (head_absent (g.V.AttributeValidator.meaning c.args.validator.now) c.args.context c.args.start c.args.name.now c.args.docs.now c.args.attrs.now c.in_ok-name.name c.in_ok-name.ensures.made c.in-None.is none)
