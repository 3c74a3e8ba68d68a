use Rattle.std.proofs.Common.{◌≡◌, map, take}
use Rattle.hir_reports.proofs.report.LoweringError.new.Given as goal

abbrev pub invariant-loop-arg : goal.invariant-loop-arg
invariant-loop-arg l = l.copies ≡ map (λ arg. arg.now) (take l.arg-index l.args)
