use Rattle.std.proofs.Common.{◌≡◌, ◌++◌, ◌∷◌, [], ap, sym, ◌∙◌, subst}
use Rattle.hir_attrs.specs.Reading.{marks_of}
use Rattle.hir_modules.specs.inside.Walk.{AreRead, HasAround}
use Rattle.hir_modules.proofs.MarkLemmas.{module_here, read_more, told_here}
use Rattle.hir_modules.proofs.modules.read_at.Goals as goal

pub returns-clause-told : goal.returns-clause-told
returns-clause-told g c =
    let backend = g.V.AttributeValidator.meaning c.args.validator.now in
    let stands = module_here c.args.env.now c.modules.result.now c.args.number c.index-modules-number.result c.modules.ensures.all c.requires.inside c.index-modules-number.is in
    let before = subst (λ marks. HasAround backend c.args.env.now marks c.args.number) (sym c.as_slice.ensures.value) c.requires.around in
    let around = c.in_ok-around.ensures backend c.index-modules-number.result stands before in
    told_here backend c.args.env.now c.args.number c.index-modules-number.result c.in_ok-around.around _ _ stands around c.in_ok-own.ensures.told

pub returns-clause-made : goal.returns-clause-made
returns-clause-made g c =
    let backend = g.V.AttributeValidator.meaning c.args.validator.now in
    let stands = module_here c.args.env.now c.modules.result.now c.args.number c.index-modules-number.result c.modules.ensures.all c.requires.inside c.index-modules-number.is in
    let before = subst (λ marks. HasAround backend c.args.env.now marks c.args.number) (sym c.as_slice.ensures.value) c.requires.around in
    let around = c.in_ok-around.ensures backend c.index-modules-number.result stands before in
    let own = c.in_ok-own.ensures.made ∙ ap (marks_of backend c.index-modules-number.result.attrs) around in
    λ done read. subst (λ marks. AreRead backend c.args.env.now marks (done ++ c.args.number ∷ [])) (sym c.put.ensures)
    (read_more backend c.args.env.now c.args.marks.now.items done c.args.number c.index-modules-number.result c.in_ok-own.own read stands own)
