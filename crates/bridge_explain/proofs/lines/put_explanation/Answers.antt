use Rattle.std.proofs.Common.{◌++◌, ap, sym, ◌∙◌}
use Rattle.std.specs.Prelude.{codes}
use Rattle.bridge_outside.proofs.PrintingLaws.{◌⨟◌, prints_same}
use Rattle.bridge_explain.specs.Lines.{explanation_line, spaced_numbers}
use Rattle.bridge_explain.proofs.lines.put_explanation.Goals as goal

pub returns-in-Chain : goal.returns-in-Chain
returns-in-Chain g c =
    prints_same (ap (λ ls. codes "chain" ++ spaced_numbers ls ++ codes "\n") c.as_slice.ensures ∙ ap explanation_line (sym c.in-Chain.is))
    (c.put_text.ensures ⨟ c.put_spaced.ensures ⨟ c.put_text-in-Chain.ensures)

pub returns-in-Separating : goal.returns-in-Separating
returns-in-Separating g c =
    prints_same (ap (λ ls. codes "long" ++ spaced_numbers ls ++ codes "\n") c.as_slice-in-Separating.ensures ∙ ap explanation_line (sym c.in-Separating.is))
    (c.put_text-in-Separating.ensures ⨟ c.put_spaced-in-Separating.ensures ⨟ c.put_text-in-Separating-2.ensures)
