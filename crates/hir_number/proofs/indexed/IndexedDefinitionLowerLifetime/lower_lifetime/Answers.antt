use Rattle.std.proofs.Common.{Some, ◌∙◌, ap, sym}
use Rattle.hir_elide.proofs.BelowLemmas.{place_counted}
use Rattle.hir_number.proofs.indexed.IndexedDefinitionLowerLifetime.lower_lifetime.Goals as goal

pub returns-then-place-lt-MOST_LIFETIMES-clause-within : goal.returns-then-place-lt-MOST_LIFETIMES-clause-within
returns-then-place-lt-MOST_LIFETIMES-clause-within c = λ s at. place_counted s c.in-Named.name c.new.result (sym (at.finds c.in-Named.name) ∙ sym c.in-Some.ensures.value ∙ ap Some (sym c.new.ensures))
