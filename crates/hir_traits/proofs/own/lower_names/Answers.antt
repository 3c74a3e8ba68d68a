use Rattle.std.proofs.Common.{◌∙◌}
use Rattle.hir_heads.specs.Heads.{lifetime_errors}
use Rattle.hir_heads.specs.Names.{name_errors}
use Rattle.hir_life.specs.Declarations.{declared_environment}
use Rattle.hir_traits.proofs.PartLemmas.{names_made}
use Rattle.hir_traits.proofs.own.lower_names.Goals as goal

pub returns-clause-made : goal.returns-clause-made
returns-clause-made c = λ none.
    let item = c.args.item.now in
    c.both_names.ensures
    ∙ names_made item.name (declared_environment item.lifetimes) (name_errors item.name) (lifetime_errors item.lifetimes) c.in_ok-name.name c.in_ok-lifetimes.lifetimes
    c.in_ok-name.ensures.made c.in_ok-lifetimes.ensures.made none
