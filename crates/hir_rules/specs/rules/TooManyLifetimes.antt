-- TooManyLifetimes: a signature or a definition has more than 4,095 lifetimes, those that are declared and the anonymous ones with them.
use Rattle.std.specs.Prelude.{◌≡◌, ◌<◌, List, length}
use Rattle.bridge_decl.specs.declared.lifetimes.LifetimeEnv.{LifetimeEnv}
use Rattle.hir_elide.specs.Numbering.{most}
use Rattle.hir_elide.specs.Occurrences.{count_of}
use Rattle.hir_number.specs.Occurrences.{signature_with}
use Rattle.hir_number.specs.Signatures.{Placed}
use Rattle.hir_reports.specs.Texts.{plain_error}
use Rattle.hir_reports.specs.declared.report.LoweringError.{LoweringError}
use Rattle.hir_reports.specs.declared.rule.Rule.TheVariants as rule

-- more are declared
abbrev pub DeclaresTooMany : LifetimeEnv → Type 0
DeclaresTooMany declared = most < length declared.nodes

-- these uses, in what declares the others, have more with the anonymous ones
abbrev pub UsesTooMany : LifetimeEnv → List Placed → LoweringError → Type 0
UsesTooMany declared uses error = (most < count_of (signature_with declared uses)) × (error ≡ plain_error rule.TooManyLifetimes)
