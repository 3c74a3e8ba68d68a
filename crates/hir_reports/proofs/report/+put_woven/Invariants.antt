use Rattle.std.proofs.Common.{length}
use Rattle.hir_reports.proofs.report.+put_woven.Given as goal

abbrev pub decreases-put_woven : goal.decreases-put_woven
decreases-put_woven g l = length l.pieces.now
