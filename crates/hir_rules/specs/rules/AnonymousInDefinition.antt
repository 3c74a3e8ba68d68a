-- AnonymousInDefinition: the type of a field has a lifetime that is anonymous or isn't written.
use Rattle.std.specs.Prelude.{◌≡◌, List}
use Rattle.hir_elide.specs.Phases.{Defining}
use Rattle.hir_number.specs.Signatures.{Placed, Usual}
use Rattle.hir_number.specs.Uses.{Use}
use Rattle.hir_reports.specs.Texts.{plain_error}
use Rattle.hir_reports.specs.declared.report.LoweringError.{LoweringError}
use Rattle.hir_reports.specs.declared.rule.Rule.TheVariants as rule
use Rattle.hir_rules.specs.LeftOut.{LeavesOut, StandsAfter}

-- one of these uses of lifetimes in a definition leaves one out
pub record AnonymousInDefinition (uses : List Placed) (error : LoweringError) : Type 0 where
  pub before : List Placed
  pub it : Use
  pub stands : StandsAfter uses before (Usual Defining) it
  pub out : LeavesOut it
  pub told : error ≡ plain_error rule.AnonymousInDefinition
