use Rattle.std.proofs.Common.{sym, ◌∙◌, subst, map}
use Rattle.std.specs.List.{All}
use Rattle.std.proofs.lemmas.List.{take_all}
use Rattle.hir_fitting.specs.Parts.{PartFits, method_part}
use Rattle.hir_fitting.proofs.Telling.{told_at}
use Rattle.hir_fitting.proofs.parts.methods_misfit.Goals as goal

pub returns-then-is_some : goal.returns-then-is_some
returns-then-is_some c =
    told_at c.args.census.now c.args.holder.now c.args.methods.now c.loop-method.method-index c.method-item.result c.in_ok-named.named c.loop-method-test.true c.method-item.is (sym c.is_some.ensures ∙ c.if-is_some.true) c.in_ok-named.ensures

pub returns : goal.returns
returns c =
    subst (λ ms. All (PartFits c.args.census.now) (map method_part ms)) (take_all c.loop-method.method-index c.args.methods.now c.loop-method-test.false) c.loop-method.invariant
