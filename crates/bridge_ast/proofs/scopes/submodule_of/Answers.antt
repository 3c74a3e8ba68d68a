use Rattle.std.proofs.Common.{◌∙◌}
use Rattle.bridge_ast.proofs.ScopeLemmas.{found_submodule}
use Rattle.bridge_ast.proofs.scopes.submodule_of.Goals as goal

pub returns : goal.returns
returns c =
    λ modules m known stands. found_submodule c.args.scopes.now modules c.args.number m c.in_ok-at.field-0.now c.args.name.now
    c.copied.result known stands c.in_ok-at.ensures (c.copied.ensures ∙ c.get.ensures.value)
