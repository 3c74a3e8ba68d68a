use Rattle.bridge_ast.specs.Types.{NamesTrait}
use Rattle.bridge_ast.specs.declared.resolution.TraitAt.{TraitAt}
use Rattle.hir_number.proofs.NamingLemmas.{same_found}
use Rattle.hir_number_slow.proofs.finding.resolved_trait.Goals as goal

pub returns : goal.returns
returns c = λ names is.
    same_found (λ (t : TraitAt). (t.decl.now, t.place)) c.resolve_trait.result (names.trait_at c.args.path.now.segments) (NamesTrait c.args.env.now c.args.number c.args.path.now.segments)
    c.resolve_trait.ensures.named c.resolve_trait.ensures.nothing (is.traits c.args.path.now.segments)
