use Rattle.hir_borrowing_params.proofs.Beginnings.{outliving_result}
use Rattle.hir_borrowing_params.proofs.starts.longer_set.Goals as goal

pub returns : goal.returns
returns c = outliving_result c.args.env.now c.args.lifetime c.in_ok-flags.flags.items c.deref.result.now c.flagged.result c.deref.ensures.value c.requires c.num_lifetimes-count.ensures.sound c.in_ok-flags.ensures c.flagged.ensures
