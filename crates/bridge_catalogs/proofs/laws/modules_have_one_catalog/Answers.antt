use Rattle.bridge_catalogs.proofs.CatalogLemmas.{one_catalog}
use Rattle.bridge_catalogs.proofs.laws.modules_have_one_catalog.Goals as goal

pub returns : goal.returns
returns c = λ modules one other a b. one_catalog modules one other a b
