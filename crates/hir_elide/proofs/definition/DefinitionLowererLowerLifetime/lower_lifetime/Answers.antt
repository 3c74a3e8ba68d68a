use Rattle.std.proofs.Common.{◌∙◌, ap, sym}
use Rattle.bridge_decl.specs.declared.lifetimes.LifetimeEnv.{LifetimeEnv}
use Rattle.bridge_decl.specs.Lifetimes.{lifetime_names}
use Rattle.bridge_text.specs.NameIndex.{number_of}
use Rattle.hir_elide.proofs.BelowLemmas.{known_within}
use Rattle.hir_elide.proofs.definition.DefinitionLowererLowerLifetime.lower_lifetime.Goals as goal

pub returns-in-Some-clause-within : goal.returns-in-Some-clause-within
returns-in-Some-clause-within c = λ s at.
    known_within s c.in-Named.name c.in-Some.place c.within_most.result
    (ap (λ (env : LifetimeEnv). number_of (lifetime_names env) c.in-Named.name) (sym at) ∙ sym c.place_of.ensures ∙ c.in-Some.is) c.within_most.ensures.told
