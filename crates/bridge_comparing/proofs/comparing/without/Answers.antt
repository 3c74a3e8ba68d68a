use Rattle.bridge_comparing.proofs.WordLemmas.{front_taken}
use Rattle.bridge_comparing.proofs.comparing.without.Goals as goal

pub returns : goal.returns
returns c = front_taken c.strip_prefix.result c.args.piece.now c.args.left.now c.strip_prefix.ensures.cases
