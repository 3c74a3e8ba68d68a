use Rattle.std.proofs.Common.{sym, ◌∙◌}
use Rattle.std.proofs.lemmas.Bool.{false≢true}
use Rattle.hir_explain.proofs.Tests.{separates_is}
use Rattle.hir_explain.proofs.checking.separates.Goals as goal
use Rattle.hir_explain.proofs.checking.separates.Goals.{then-has, else-has}

pub returns-then-is_apart : goal.returns-then-is_apart
returns-then-is_apart c =
    elim c.if-has.branch [
      | then-has w ↦
          separates_is _ _ _ _ _ (c.has.ensures.0 w.if-has.true) (w.is_apart.ensures.0 (sym w.value-is ∙ c.if-is_apart.true)) c.is_steady.ensures
      | else-has w ↦ absurd (false≢true (sym w.if-has.false ∙ sym w.value-is ∙ c.if-is_apart.true))
    ]
