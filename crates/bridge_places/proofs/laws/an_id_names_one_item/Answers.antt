use Rattle.bridge_places.proofs.LawLemmas.{one_item}
use Rattle.bridge_places.proofs.laws.an_id_names_one_item.Goals as goal

pub returns : goal.returns
returns c = λ modules catalog place other item second. one_item modules catalog place other item second
