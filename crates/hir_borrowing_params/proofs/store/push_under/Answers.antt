use Rattle.std.proofs.Common.{ap, sym, ◌∙◌}
use Rattle.std.specs.Option.{option_copied_mut}
use Rattle.hir_borrowing_params.proofs.Writing.{found_other}
use Rattle.hir_borrowing_params.proofs.store.push_under.Goals as goal

pub returns-in-Some-clause-others : goal.returns-in-Some-clause-others
returns-in-Some-clause-others c =
    found_other c.args.map.now (c.get_mut.follows.lender c.push_edges.new.info) c.args.key c.in-Some.info.now c.push_edges.new.info (sym c.get_mut.ensures.value ∙ ap option_copied_mut c.in-Some.is) (c.get_mut.follows.holds c.push_edges.new.info)
