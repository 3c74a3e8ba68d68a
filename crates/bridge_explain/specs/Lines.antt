-- The line of an explanation: `chain 1 0`, or `long 1`.
use Rattle.std.specs.Prelude.{ℕ, List, ◌++◌, codes, decimal}
use Rattle.std.specs.List.{flat_map}
use Rattle.hir_explain.specs.declared.explanations.Explanation.{Explanation}
use Rattle.hir_explain.specs.declared.explanations.Explanation.TheVariants.{Chain, Separating}

-- numbers, each after a space
abbrev pub spaced_numbers : List ℕ → List ℕ
spaced_numbers numbers = flat_map (λ n. codes " " ++ decimal n) numbers

abbrev pub explanation_line : Explanation → List ℕ
explanation_line (Chain chain) = codes "chain" ++ spaced_numbers chain ++ codes "\n"
explanation_line (Separating long) = codes "long" ++ spaced_numbers long ++ codes "\n"
