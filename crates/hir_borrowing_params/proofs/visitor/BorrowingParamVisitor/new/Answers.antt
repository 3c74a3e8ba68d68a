use Rattle.std.proofs.Common.{ℕ}
use Rattle.std.specs.Prelude.{IsSome}
use Rattle.hir_borrowing_params.specs.Slices.{IsKept}
use Rattle.hir_borrowing_params.specs.Visitors.{kept_under}
use Rattle.hir_borrowing_params.specs.declared.visitor.BorrowingParamVisitor.{BorrowingParamVisitor}
use Rattle.hir_borrowing_params.proofs.Returned.{kept_as}
use Rattle.hir_borrowing_params.proofs.visitor.BorrowingParamVisitor.new.Goals as goal

pub returns-clause-keys : goal.returns-clause-keys
returns-clause-keys c =
    kept_as (λ (v : BorrowingParamVisitor) (t : ℕ). IsSome (kept_under v t)) (IsKept c.args.tcx.now.definitions c.args.method.now c.args.force_include_slices) c.in_ok-set.set.keys c.for_lifetimes.result c.in_ok-set.ensures.kept
    c.for_lifetimes.ensures.keys
