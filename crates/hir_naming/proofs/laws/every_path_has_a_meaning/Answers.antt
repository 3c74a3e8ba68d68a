use Rattle.hir_naming.proofs.NamingLemmas.{meaning_is_naming}
use Rattle.hir_naming.proofs.laws.every_path_has_a_meaning.Goals as goal

pub returns : goal.returns
returns c = λ modules sound number within. meaning_is_naming modules sound number within
