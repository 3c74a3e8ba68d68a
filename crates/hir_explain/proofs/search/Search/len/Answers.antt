use Rattle.std.proofs.Common.{◌≤◌, arith, subst}
use Rattle.hir_explain.proofs.Finding.{found_most}
use Rattle.hir_explain.proofs.search.Search.len.Goals as goal

pub returns-clause-most : goal.returns-clause-most
returns-clause-most c =
    let most : c.len.result ≤ c.self.inside.env.now.count =
    omega (arith, c.len.ensures, found_most c.self.inside.reached.items c.self.inside.places.items c.self.inside.env.now.count c.self.invariant.placed c.self.invariant.found.within) in
    subst (λ f. c.len.result ≤ f.environment.count) c.self.view_is most
