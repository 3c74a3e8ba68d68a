use Rattle.std.proofs.Common.{◌≡◌, get_or, subst}
use Rattle.hir_explain.specs.inside.Searching.{IsFound}
use Rattle.hir_explain.proofs.Finding.{read_within}
use Rattle.hir_explain.proofs.search.Search.lifetime_at.Goals as goal

pub returns-clause-within : goal.returns-clause-within
returns-clause-within c =
    read_within c.args.self.now c.args.place c.index.result.now (subst (λ f. IsFound f) c.self.view_is c.self.invariant.found) c.requires
    (subst (λ f. c.index.result.now ≡ get_or f.reached c.args.place c.index.result.now) c.self.view_is c.index.ensures)
