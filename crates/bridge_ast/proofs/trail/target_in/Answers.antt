use Rattle.bridge_ast.proofs.TrailLemmas.{none_mapped}
use Rattle.bridge_ast.proofs.trail.target_in.Goals as goal

pub returns-in-None : goal.returns-in-None
returns-in-None c = none_mapped (λ alias. alias.target) c.args.aliases.now c.args.number c.in-None.ensures
