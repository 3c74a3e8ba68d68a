use Rattle.std.proofs.Common.{◌≡◌, map, take}
use Rattle.hir_number.specs.Breaches.{broken}
use Rattle.hir_reports.specs.Store.{added}
use Rattle.hir_signatures.specs.Errors.{breach_error}
use Rattle.hir_signatures.proofs.breaches.push_each.Given as goal

abbrev pub invariant-loop-breach : goal.invariant-loop-breach
invariant-loop-breach l = l.errors ≡ added l.fn.errors (map (λ b. breach_error (broken b)) (take l.breach-index l.breaches))
