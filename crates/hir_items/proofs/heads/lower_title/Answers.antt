use Rattle.std.proofs.Common.{ℕ, List, Some, ◌∙◌}
use Rattle.hir_heads.specs.Heads.{lifetime_errors}
use Rattle.hir_heads.specs.Names.{name_errors}
use Rattle.hir_life.specs.Declarations.{declared_environment}
use Rattle.hir_life.specs.Environment.{Environment}
use Rattle.hir_methods.proofs.MadeLemmas.{both_made}
use Rattle.hir_items.specs.declared.heads.Title.{Title}
use Rattle.hir_items.proofs.heads.lower_title.Goals as goal

pub returns-clause-made : goal.returns-clause-made
returns-clause-made c = λ none.
    let title : List ℕ → Environment → Title = λ name lifetimes. record { name = name; lifetimes = lifetimes } in
    c.titled.ensures
    ∙ both_made title c.args.name.now (Some (declared_environment c.args.lifetimes.now)) c.in_ok-name.name c.in_ok-lifetimes.lifetimes (name_errors c.args.name.now)
    (lifetime_errors c.args.lifetimes.now) c.in_ok-name.ensures.made c.in_ok-lifetimes.ensures.made none
