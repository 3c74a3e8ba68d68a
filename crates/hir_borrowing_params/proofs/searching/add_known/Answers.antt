use Rattle.std.proofs.Common.{ap, sym, nat_cmp, ◌∙◌}
use Rattle.std.specs.BTreeMap as by_key
use Rattle.hir_borrowing_params.proofs.Including.{known_added}
use Rattle.hir_borrowing_params.proofs.searching.add_known.Goals as goal

pub returns : goal.returns
returns c =
    known_added c.args.tcx.now.definitions c.args.known.now c.args.path.now.tcx_id c.in-Some.own.now c.args.set.now c.add_arguments.new.set c.as_slice.result.now c.args.path.now.lifetimes c.add_arguments.result c.requires.known
    (ap (by_key.get nat_cmp c.args.known.now) (sym c.index.ensures) ∙ sym c.in-Some.ensures.value) c.as_slice.ensures c.add_arguments.ensures
