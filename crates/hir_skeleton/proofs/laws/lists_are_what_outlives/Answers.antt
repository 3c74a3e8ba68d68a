use Rattle.hir_skeleton.proofs.Outliving.{listed_outlive, outliving_listed}
use Rattle.hir_skeleton.proofs.laws.lists_are_what_outlives.Goals as goal

pub returns : goal.returns
returns c = λ longer t test leaves path tells. (
  listed_outlive longer t test tells leaves path,
  outliving_listed longer t test tells leaves path,
)
