-- Names with lifetimes, and rules without arguments.
use Rattle.std.specs.Prelude.{ℕ, List, [], ◌∷◌, Bool, Option, option_map, if◌then◌else◌}
use Rattle.bridge_decl.specs.declared.lifetimes.LifetimeEnv.{LifetimeEnv}
use Rattle.hir_life.specs.Declarations.{declared_environment}
use Rattle.hir_life.specs.Environment.{Environment}
use Rattle.hir_methods.specs.Choosing.{paired}
use Rattle.hir_reports.specs.Texts.{plain_error}
use Rattle.hir_reports.specs.declared.report.LoweringError.{LoweringError}
use Rattle.hir_reports.specs.declared.rule.Rule.{Rule}
use Rattle.hir_items.specs.declared.heads.Title.{Title}

-- a rule without arguments, where it is broken
abbrev pub broken_if : Bool → Rule → List LoweringError
broken_if broken rule = if broken then plain_error rule ∷ [] else []

-- a name with lifetimes, where there are both
abbrev pub titled : Option (List ℕ) → Option Environment → Option Title
titled name lifetimes = option_map (λ p. record { name = p.0; lifetimes = p.1 }) (paired name lifetimes)

-- what they stand for
abbrev pub title_form : List ℕ → LifetimeEnv → Title
title_form name lifetimes = record { name = name; lifetimes = declared_environment lifetimes }
