use Rattle.std.proofs.Common.{[], ap, map, get_or}
use Rattle.bridge_ast.proofs.TrailLemmas.{none_mapped}
use Rattle.bridge_ast.proofs.trail.target_of.Goals as goal

pub returns-in-None : goal.returns-in-None
returns-in-None c =
    ap (λ targets. get_or targets c.args.alias []) (none_mapped (λ m. map (λ a. a.target) m.aliases) c.args.modules.now
    c.args.number c.in-None.ensures)
