use Rattle.std.proofs.Common.{refl, sym, ◌∙◌}
use Rattle.hir_fitting.specs.Fitting.{OfOtherArity}
use Rattle.hir_fitting.proofs.fitting.path_misfit.Goals as goal

pub returns-then-arity-len : goal.returns-then-arity-len
returns-then-arity-len c =
    OfOtherArity refl refl (sym c.in-Some.ensures.arity) (λ e. c.if-arity-len.true (e ∙ sym c.len.ensures))
