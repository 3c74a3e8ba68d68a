use Rattle.bridge_places.proofs.LawLemmas.{listed_place}
use Rattle.bridge_places.proofs.laws.a_listed_place_has_its_kind.Goals as goal

pub returns : goal.returns
returns c = λ modules k place. listed_place modules k place
