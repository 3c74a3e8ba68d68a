use Rattle.bridge_measure.proofs.MeasuredLemmas.{all_listed, callables_counted}
use Rattle.bridge_measure.proofs.laws.generated_functions_are_the_callables.Goals as goal

pub returns : goal.returns
returns c = record {
  counted = λ count backend config catalog fits is. callables_counted count backend config catalog fits is;
  listed = λ count backend config catalog fits is listed told. all_listed count backend config catalog fits is listed told;
}
