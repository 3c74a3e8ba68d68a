use Rattle.hir_skeleton.proofs.Nesting.{composes, composes_in}
use Rattle.hir_skeleton.proofs.laws.substitution_composes_along_nesting.Goals as goal

pub returns : goal.returns
returns c = λ _ fields_of levels given args s. composes_in fields_of levels (composes fields_of levels) given args s
