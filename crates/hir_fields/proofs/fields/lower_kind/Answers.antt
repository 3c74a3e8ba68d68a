use Rattle.std.proofs.Common.{◌++◌, map, subst}
use Rattle.bridge_decl.specs.declared.structs.Field.{Field}
use Rattle.hir_backends.specs.declared.support.BackendAttrSupport.{BackendAttrSupport}
use Rattle.hir_heads.specs.Heads.{lifetime_errors}
use Rattle.hir_heads.specs.Told.{MadeUnlessTold}
use Rattle.std.proofs.Common.{List}
use Rattle.hir_fields.proofs.FieldLemmas.{fields_given_ok}
use Rattle.hir_fields.specs.Heads.{field_heads_errors}
use Rattle.hir_fields.specs.Types.{field_types_form, types_errors}
use Rattle.hir_fields.specs.Told.{StandsUnlessTold}
use Rattle.hir_fields.specs.inside.Heads.{field_head}
use Rattle.hir_fields.proofs.fields.lower_kind.Goals as goal

pub returns-clause-given : goal.returns-clause-given
returns-clause-given g c = λ names is.
    let item = c.args.item.now in
    let backend = g.V.AttributeValidator.meaning c.args.validator.now in
    let form = field_types_form (g.K.FieldKind.type_form c.args.catalog.now) names item in
    fields_given_ok g.K.FieldKind.field (field_head backend) item.fields form c.in_ok-heads.heads c.in_ok-types.types c.join.result (lifetime_errors item.lifetimes) (field_heads_errors backend c.args.context item.fields)
    (types_errors (g.K.FieldKind.type_errors backend.supports c.args.catalog.now) names item)
    (subst (λ (fields : List Field). MadeUnlessTold (field_heads_errors backend c.args.context fields) (map (field_head backend) fields) c.in_ok-heads.heads) c.as_slice.ensures c.in_ok-heads.ensures.made)
    (subst (λ (support : BackendAttrSupport). StandsUnlessTold (lifetime_errors item.lifetimes ++ types_errors (g.K.FieldKind.type_errors support c.args.catalog.now) names item) form c.in_ok-types.types)
    c.attrs_supported-support.ensures (c.in_ok-types.ensures.given names is))
    c.join.ensures
