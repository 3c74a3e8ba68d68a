use Rattle.std.proofs.Common.{◌≡◌, ◌-◌, length, take, sym, refl, arith, subst}
use Rattle.std.proofs.lemmas.Bool.{false≢true}
use Rattle.std.proofs.lemmas.Grind.{common_steps}
use Rattle.definition_graph.specs.inside.SearchSteps.{IsTop}
use Rattle.definition_graph.proofs.Moving.{emits, closes}
use Rattle.definition_graph.proofs.search.Search.finish.Goals as goal

pub returns-in_ok-emit-clause-proceeds : goal.returns-in_ok-emit-clause-proceeds
returns-in_ok-emit-clause-proceeds g c =
    let work : c.pop.new.self.items ≡ take (length c.args.self.now.work.items - 1) c.args.self.now.work.items =
    grind (arith, common_steps, c.pop.ensures.rest) in
    let bounds : c.pop-then-is_last.new.self.items ≡ take (length c.args.self.now.bounds.items - 1) c.args.self.now.bounds.items =
    grind (arith, common_steps, c.pop-then-is_last.ensures.rest) in
    let top : IsTop c.args.self.now.bounds.items c.args.at =
    subst (λ xs. IsTop xs c.args.at) c.deref.ensures.value (c.if-is_last.ensures.0 refl) in
    emits c.args.graph.now c.args.self.now c.emit.new.self c.args.at _ _ c.requires.holds c.requires.top c.requires.none
    work top.0 top.1 bounds c.in_ok-emit.ensures.emits

pub returns-else-is_last-clause-proceeds : goal.returns-else-is_last-clause-proceeds
returns-else-is_last-clause-proceeds g c =
    let work : c.pop.new.self.items ≡ take (length c.args.self.now.work.items - 1) c.args.self.now.work.items =
    grind (arith, common_steps, c.pop.ensures.rest) in
    closes c.args.graph.now c.args.self.now c.args.at _ c.requires.holds c.requires.top c.requires.none work
    (λ some e. false≢true (c.if-is_last.ensures.1 (subst (λ xs. IsTop xs c.args.at) (sym c.deref.ensures.value) (some, sym e))))
