use Rattle.hir_nesting.proofs.Judging.{no_fault}
use Rattle.hir_nesting.proofs.laws.what_nests_well_has_no_fault.Goals as goal

pub returns : goal.returns
returns c = λ g a f well within has. no_fault g a f well within has
