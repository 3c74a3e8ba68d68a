use Rattle.hir_validation.proofs.DirectLemmas.{is_held}
use Rattle.hir_validation.proofs.direct.DirectBounds.has.Goals as goal

pub returns : goal.returns
returns c =
    is_held c.self.inside.longer.items c.self.inside.env.now c.args.self.now c.index.result c.args.shorter c.args.longer c.index-2.result.now c.contains.result
    c.self.invariant.0 c.self.invariant.1 c.self.view_is c.index.ensures c.requires c.index-2.ensures c.contains.ensures
