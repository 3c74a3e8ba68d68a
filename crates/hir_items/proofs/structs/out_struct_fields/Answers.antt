use Rattle.std.proofs.Common.{[], Some, ap, sym, ◌∙◌}
use Rattle.hir_fields.specs.Fields.{out_fields_errors, out_fields_form}
use Rattle.hir_heads.specs.Heads.{lifetime_errors}
use Rattle.hir_methods.proofs.Outcomes.{and_so, and_so_of}
use Rattle.hir_reports.proofs.StoreLaws.{added_nothing}
use Rattle.hir_reports.specs.Store.{added}
use Rattle.hir_items.proofs.PartLemmas.{disabled_told, enabled_told, fields_enabled, no_fields}
use Rattle.hir_items.proofs.structs.out_struct_fields.Goals as goal

pub returns-then-marks-clause-told : goal.returns-then-marks-clause-told
returns-then-marks-clause-told g c = λ names is.
    let backend = g.V.AttributeValidator.meaning c.args.lent.now.validator.now in
    let item = c.args.item.now in
    let marks = c.args.marks.now in
    added_nothing c.args.errors.now ∙ ap (added c.args.errors.now) (sym (disabled_told marks (out_fields_errors backend c.args.lent.now.catalog.now names item) c.if-marks.true))

pub returns-then-marks-clause-made : goal.returns-then-marks-clause-made
returns-then-marks-clause-made g c = λ names is none.
    let backend = g.V.AttributeValidator.meaning c.args.lent.now.validator.now in
    let item = c.args.item.now in
    let marks = c.args.marks.now in
    ap (λ fields. Some fields) c.new.ensures ∙ no_fields marks (out_fields_form backend c.args.lent.now.catalog.now names item) c.if-marks.true

pub returns-clause-told : goal.returns-clause-told
returns-clause-told g c = λ names is.
    let backend = g.V.AttributeValidator.meaning c.args.lent.now.validator.now in
    let item = c.args.item.now in
    let marks = c.args.marks.now in
    let all = out_fields_errors backend c.args.lent.now.catalog.now names item in
    and_so c.lower_out_fields.result (λ told. told ∙ ap (added c.args.errors.now) (sym (enabled_told marks all c.if-marks.false))) (c.lower_out_fields.ensures.told names is)

pub returns-clause-made : goal.returns-clause-made
returns-clause-made g c = λ names is.
    let backend = g.V.AttributeValidator.meaning c.args.lent.now.validator.now in
    let item = c.args.item.now in
    let marks = c.args.marks.now in
    and_so_of c.lower_out_fields.result
    (λ fields stands. fields_enabled marks (lifetime_errors item.lifetimes) [] (out_fields_errors backend c.args.lent.now.catalog.now names item)
    (out_fields_form backend c.args.lent.now.catalog.now names item) fields c.if-marks.false stands)
    (c.lower_out_fields.ensures.made names is)
