use Rattle.hir_naming.proofs.NamingLemmas.{traits_agree, types_agree}
use Rattle.hir_naming.proofs.laws.namings_agree.Goals as goal

pub returns-clause-types : goal.returns-clause-types
returns-clause-types c = λ modules number one other path is also. types_agree modules number one other is also path

pub returns-clause-traits : goal.returns-clause-traits
returns-clause-traits c = λ modules number one other path is also. traits_agree modules number one other is also path
