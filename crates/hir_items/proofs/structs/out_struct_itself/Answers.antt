use Rattle.std.proofs.Common.{◌≡◌, ◌++◌, subst, sym}
use Rattle.std.specs.Prelude.{IfOk, OnOk}
use Rattle.hir_fields.specs.Fields.{out_fields_errors, out_fields_form}
use Rattle.hir_heads.specs.Heads.{lifetime_errors}
use Rattle.hir_heads.specs.Names.{name_errors}
use Rattle.hir_methods.proofs.DisabledLemmas.{told_after}
use Rattle.hir_methods.proofs.Outcomes.{and_so}
use Rattle.hir_methods.specs.inside.Parts.{GivenUnlessTold}
use Rattle.hir_reports.specs.Store.{added}
use Rattle.hir_items.proofs.PartLemmas.{struct_given, struct_told}
use Rattle.hir_items.specs.Placing.{where_enabled}
use Rattle.hir_items.specs.Setting.{setting}
use Rattle.hir_items.specs.Structs.{out_struct_own_errors, type_fields_form}
use Rattle.hir_items.specs.inside.StructParts.{out_struct_own_form}
use Rattle.hir_items.specs.inside.Titles.{title_form}
use Rattle.hir_items.proofs.structs.out_struct_itself.Goals as goal

pub returns-clause-told : goal.returns-clause-told
returns-clause-told g c = λ names is.
    let s = setting (g.V.AttributeValidator.meaning c.args.lent.now.validator.now) c.args.lent.now names in
    let item = c.args.item.now in
    let marks = c.args.marks.now in
    let rest = where_enabled marks (out_fields_errors s.backend s.catalog s.names item) in
    let fields = c.out_struct_fields-fields.result in
    let Told = c.out_struct_fields-fields.new.errors ≡ added c.args.errors.now (out_struct_own_errors s marks item) in
    subst (λ r. OnOk r Told) (sym c.struct_own.ensures)
    (struct_told c.in_ok-title.title fields Told
    (and_so fields
    (told_after c.args.errors.now c.lower_title.new.errors c.out_struct_fields-fields.new.errors (name_errors item.name ++ lifetime_errors item.lifetimes) rest c.in_ok-title.ensures.told)
    (c.out_struct_fields-fields.ensures.told names is)))

pub returns-clause-made : goal.returns-clause-made
returns-clause-made g c = λ names is.
    let s = setting (g.V.AttributeValidator.meaning c.args.lent.now.validator.now) c.args.lent.now names in
    let item = c.args.item.now in
    let marks = c.args.marks.now in
    let rest = where_enabled marks (out_fields_errors s.backend s.catalog s.names item) in
    subst (λ r. IfOk r (GivenUnlessTold (out_struct_own_errors s marks item) (out_struct_own_form s marks item))) (sym c.struct_own.ensures)
    (struct_given (title_form item.name item.lifetimes) (type_fields_form marks (out_fields_form s.backend s.catalog s.names item)) c.in_ok-title.title c.out_struct_fields-fields.result
    (name_errors item.name) (lifetime_errors item.lifetimes) rest c.in_ok-title.ensures.made (c.out_struct_fields-fields.ensures.made names is))
