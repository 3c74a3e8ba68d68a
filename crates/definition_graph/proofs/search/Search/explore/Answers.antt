use Rattle.std.proofs.Common.{◌≡◌, ◌-◌, ◌<◌, length, get_or, refl, ◌∙◌, ap, arith}
use Rattle.std.proofs.lemmas.List.{get_or_read}
use Rattle.definition_graph.specs.inside.SearchSteps.{search_mark}
use Rattle.definition_graph.proofs.Moving.{explores, top_in_path}
use Rattle.definition_graph.proofs.search.Search.explore.Goals as goal

pub returns-clause-proceeds : goal.returns-clause-proceeds
returns-clause-proceeds g c =
    let in_path = top_in_path c.args.graph.now c.args.self.now c.args.at c.requires.holds c.requires.top in
    let node : c.index-node.result.now ≡ get_or c.args.self.now.path.items c.args.at 0 =
    get_or_read c.args.self.now.path.items c.args.at _ in_path c.index-node.ensures 0 in
    let within : c.index-node.result.now < length c.args.graph.now =
    omega (arith, node, c.requires.holds.searching.within c.args.at in_path) in
    let left : c.index.result.now ≡ get_or c.args.self.now.left.items c.index-node.result.now 0 =
    get_or_read c.args.self.now.left.items c.index-node.result.now _ (omega (arith, within, c.requires.holds.left_each)) c.index.ensures 0 in
    explores c.args.graph.now c.args.self.now c.visit.new.self c.args.at c.index-node.result.now (c.index.result.now - 1)
    c.successor-target.result _ c.requires.holds c.in_ok-visit.ensures.visits within
    (ap (search_mark c.args.self.now) node ∙ c.requires.holds.searching.on_path c.args.at in_path)
    (omega (arith, left, c.requires.some, ap (λ v. get_or c.args.self.now.left.items v 0) node)) c.successor-target.ensures.value refl
