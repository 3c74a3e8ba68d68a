use Rattle.std.proofs.Common.{arith, rules}
use Rattle.hir_borrowing_params.specs.Slices.{field_slices}
use Rattle.hir_borrowing_params.proofs.Including.{fields_nest, found_in_fields}
use Rattle.hir_borrowing_params.proofs.searching.+slices.Goals as goal

pub slices_of_struct-add_fields-requires : goal.slices_of_struct-add_fields-requires
slices_of_struct-add_fields-requires t c =
    let few = c.requires.few in
    (search rules, (omega (arith, few), (c.requires.known, fields_nest c.args.tcx.now.definitions (λ f. field_slices f.ty) c.fields_of.result.now c.args.id c.args.levels c.fields_of.ensures c.if-levels-eq0.false c.requires.nests)))

pub slices_of_struct-returns-clause-found : goal.slices_of_struct-returns-clause-found
slices_of_struct-returns-clause-found t c =
    found_in_fields c.args.tcx.now.definitions (λ f. field_slices f.ty) c.fields_of.result.now c.args.id c.args.levels c.new-own.result c.add_fields.new.set c.fields_of.ensures c.requires.few c.requires.nests c.new-own.ensures.empty
    c.in_ok-add_fields.ensures.found
