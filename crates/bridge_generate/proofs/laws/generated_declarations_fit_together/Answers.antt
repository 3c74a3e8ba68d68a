use Rattle.bridge_generate.proofs.FitLemmas.{generated_fits}
use Rattle.bridge_generate.proofs.laws.generated_declarations_fit_together.Goals as goal

pub returns : goal.returns
returns c = λ count fits. generated_fits count fits
