use Rattle.hir_heads.proofs.NameLemmas.{ident_decided}
use Rattle.hir_heads.proofs.laws.identifiers_are_tested.Goals as goal

pub returns : goal.returns
returns c = ident_decided
