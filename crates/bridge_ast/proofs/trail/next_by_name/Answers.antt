use Rattle.std.proofs.Common.{Some}
use Rattle.bridge_ast.proofs.TrailLemmas.{by_submodule}
use Rattle.bridge_ast.proofs.trail.next_by_name.Goals as goal

pub returns-in-Some : goal.returns-in-Some
returns-in-Some c =
    λ modules known (m, stands). by_submodule modules c.args.number m c.args.name.now (Some c.in-Some.submodule) stands
    (c.in-Some.ensures modules m known stands)
