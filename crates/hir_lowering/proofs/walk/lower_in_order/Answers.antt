use Rattle.std.proofs.Common.{refl}
use Rattle.hir_lowering.specs.inside.Walking.{IsInterface}
use Rattle.hir_lowering.specs.Walks.{interface_of}
use Rattle.hir_lowering.proofs.WalkLemmas.{walks_on}
use Rattle.hir_lowering.proofs.walk.lower_in_order.Goals as goal

pub returns-clause-walked : goal.returns-clause-walked
returns-clause-walked g c =
    λ names named.
    let modules = c.args.env.now in
    let backend = g.V.AttributeValidator.meaning c.args.validator.now in
    let catalog = c.args.order.now.catalog in
    let it = interface_of modules backend c.args.config names catalog in
    let is_catalog = c.requires.catalog in
    let is : IsInterface it = record { catalog = is_catalog; names = named } in
    walks_on modules backend c.args.config names c.args.errors.now c.lower_modules.new.errors c.lower_items.new.errors catalog c.lower_items.result is_catalog
    c.in_ok-marks.ensures.told (c.lower_items.ensures.told it is
    (record { modules = refl; backend = refl; support = c.attrs_supported-support.ensures; config = refl; catalog = refl }))
    (c.lower_items.ensures.made it is
    (record { modules = refl; backend = refl; support = c.attrs_supported-support.ensures; config = refl; catalog = refl }))
