use Rattle.std.proofs.Common.{◌∙◌}
use Rattle.bridge_ast.proofs.ScopeLemmas.{found_part, no_part}
use Rattle.bridge_ast.proofs.scopes.part_of.Goals as goal

pub returns-in_err-at : goal.returns-in_err-at
returns-in_err-at c =
    λ modules known. c.from_residual.ensures ∙ no_part c.args.scopes.now modules c.args.number c.args.name.now known
    c.in_err-at.ensures

pub returns : goal.returns
returns c =
    λ modules known. found_part c.args.scopes.now modules c.args.number c.in_ok-at.field-0.now c.args.name.now c.copied.result
    known c.in_ok-at.ensures (c.copied.ensures ∙ c.get.ensures.value)
