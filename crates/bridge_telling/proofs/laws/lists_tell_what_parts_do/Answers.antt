use Rattle.std.specs.Prelude.{IsTrue}
use Rattle.bridge_telling.proofs.ExactLemmas.{exactly_both, exactly_each}
use Rattle.bridge_telling.proofs.laws.lists_tell_what_parts_do.Goals as goal

pub returns-clause-both : goal.returns-clause-both
returns-clause-both c = λ _ xs ys p q here there. exactly_both xs ys (λ e. IsTrue (p e)) (λ e. IsTrue (q e)) here there

pub returns-clause-each : goal.returns-clause-each
returns-clause-each c = λ _ told p xs all. exactly_each told (λ x e. IsTrue (p x e)) all xs
