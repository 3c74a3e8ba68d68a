use Rattle.std.proofs.Common.{◌≡◌, arith, length, sym, subst}
use Rattle.std.specs.Prelude.{IfSome}
use Rattle.std.specs.List.{zip}
use Rattle.bridge_decl.specs.declared.structs.Field.{Field}
use Rattle.hir_reports.specs.Store.{added}
use Rattle.hir_form.specs.ParamForms.{all_given}
use Rattle.hir_fields.proofs.Pairing.{long, pair_at, seconds}
use Rattle.hir_fields.proofs.SoFar.{ends, ends_each, ends_given, goes_on_at}
use Rattle.hir_fields.specs.Told.{StandsUnlessTold}
use Rattle.hir_fields.specs.Types.{each_errors}
use Rattle.hir_fields.proofs.types.judge_each.Goals as goal

pub loop-i-preserved : goal.loop-i-preserved
loop-i-preserved g c =
    let fields = c.args.fields.now in
    let types = c.args.types.now in
    goes_on_at (λ pair. g.K.FieldKind.type_errors c.args.support.now c.args.catalog.now pair.0.name pair.1) (λ pair. g.K.FieldKind.type_form c.args.catalog.now pair.1) (zip fields types) c.loop-i.i
    (c.index-fields-i.result, c.index-types-i.result) c.args.errors.now c.loop-i.errors c.judge.new.errors c.loop-i.made c.in_ok-made.made c.in_ok-ty.ty c.loop-i.invariant
    (omega (arith, long fields types c.requires, c.loop-i-test.true))
    (pair_at fields types c.loop-i.i c.index-fields-i.result c.index-types-i.result c.requires (omega arith) c.index-fields-i.is c.index-types-i.is)
    (subst (λ (field : Field). c.judge.new.errors ≡ added c.loop-i.errors (g.K.FieldKind.type_errors c.args.support.now c.args.catalog.now field.name c.index-types-i.result))
    (sym c.index-fields-i.is) c.in_ok-ty.ensures.told)
    (subst (λ (field : Field). StandsUnlessTold (g.K.FieldKind.type_errors c.args.support.now c.args.catalog.now field.name c.index-types-i.result)
    (g.K.FieldKind.type_form c.args.catalog.now c.index-types-i.result) c.in_ok-ty.ty) (sym c.index-fields-i.is) c.in_ok-ty.ensures.given)
    c.in_ok-ty.ensures.kept c.in_ok-made.ensures

pub returns-clause-told : goal.returns-clause-told
returns-clause-told g c =
    ends (λ pair. g.K.FieldKind.type_errors c.args.support.now c.args.catalog.now pair.0.name pair.1) (λ pair. g.K.FieldKind.type_form c.args.catalog.now pair.1) (zip c.args.fields.now c.args.types.now)
    c.loop-i.i c.args.errors.now c.loop-i.errors c.loop-i.made c.loop-i.invariant (omega (arith, long c.args.fields.now c.args.types.now c.requires, c.loop-i-test.false))

pub returns-clause-given : goal.returns-clause-given
returns-clause-given g c =
    let fields = c.args.fields.now in
    let types = c.args.types.now in
    subst (λ forms. StandsUnlessTold (each_errors (g.K.FieldKind.type_errors c.args.support.now c.args.catalog.now) fields types) (all_given forms) c.loop-i.made)
    (seconds (g.K.FieldKind.type_form c.args.catalog.now) fields types c.requires)
    (ends_given (λ pair. g.K.FieldKind.type_errors c.args.support.now c.args.catalog.now pair.0.name pair.1) (λ pair. g.K.FieldKind.type_form c.args.catalog.now pair.1) (zip fields types)
    c.loop-i.i c.args.errors.now c.loop-i.errors c.loop-i.made c.loop-i.invariant (omega (arith, long fields types c.requires, c.loop-i-test.false)))

pub returns-clause-each : goal.returns-clause-each
returns-clause-each g c =
    let fields = c.args.fields.now in
    let types = c.args.types.now in
    subst (λ n. IfSome c.loop-i.made (λ lowered. length lowered ≡ n)) (long fields types c.requires)
    (ends_each (λ pair. g.K.FieldKind.type_errors c.args.support.now c.args.catalog.now pair.0.name pair.1) (λ pair. g.K.FieldKind.type_form c.args.catalog.now pair.1) (zip fields types)
    c.loop-i.i c.args.errors.now c.loop-i.errors c.loop-i.made c.loop-i.invariant (omega (arith, long fields types c.requires, c.loop-i-test.false)))
