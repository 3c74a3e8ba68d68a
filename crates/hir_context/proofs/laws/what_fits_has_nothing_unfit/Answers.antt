use Rattle.hir_context.proofs.Naming.{none_unfit}
use Rattle.hir_context.proofs.laws.what_fits_has_nothing_unfit.Goals as goal

pub returns : goal.returns
returns c = λ defs unfit fit is. none_unfit defs unfit fit is
