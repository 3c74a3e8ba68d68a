use Rattle.hir_borrowing_params.proofs.Beginnings.{adds_start}
use Rattle.hir_borrowing_params.proofs.starts.add_start.Goals as goal

pub returns : goal.returns
returns c = adds_start c.args.env.now c.args.lifetime c.args.map.now c.insert.new.self c.in_ok-info.info c.in_ok-insert.ensures.updates c.in_ok-info.ensures
