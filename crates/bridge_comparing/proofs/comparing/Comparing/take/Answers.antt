use Rattle.bridge_comparing.proofs.WordLemmas.{nothing_taken}
use Rattle.bridge_comparing.proofs.comparing.Comparing.take.Goals as goal

pub returns-in-None : goal.returns-in-None
returns-in-None c = nothing_taken c.args.piece.now c.self.inside.left c.args.self.now c.self.view_is c.in-None.is
