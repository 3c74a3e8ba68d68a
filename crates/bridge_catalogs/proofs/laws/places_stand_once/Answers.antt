use Rattle.bridge_places.specs.Places.{places_of}
use Rattle.bridge_catalogs.proofs.OnceLemmas.{one_number}
use Rattle.bridge_catalogs.proofs.OrderLemmas.{places_once}
use Rattle.bridge_catalogs.proofs.laws.places_stand_once.Goals as goal

pub returns : goal.returns
returns c = λ modules k place i j. one_number (places_of modules k) i j place (places_once modules k)
