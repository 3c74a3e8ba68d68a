use Rattle.std.proofs.Common.{sym, subst, arith}
use Rattle.bridge_ast.specs.Sound.{AreSound}
use Rattle.bridge_generate.proofs.FitLemmas.{generated_fits}
use Rattle.bridge_generate.proofs.generating.generated.Goals as goal

pub unreachable-requires : goal.unreachable-requires
unreachable-requires c =
    (rw c.in-Err-Bad.field-0-is at c.in-Err-Bad.ensures.broken) tt
    (subst AreSound (sym c.in_ok-modules.ensures) (generated_fits c.args.n (omega arith)))
