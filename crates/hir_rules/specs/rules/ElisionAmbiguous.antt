-- ElisionAmbiguous: the return of a method or a function elides a lifetime, the receiver isn't borrowed, and several lifetimes in the
-- parameters count.
use Rattle.std.specs.Prelude.{◌≡◌, List, [], ◌∷◌}
use Rattle.bridge_decl.specs.declared.lifetimes.LifetimeEnv.{LifetimeEnv}
use Rattle.hir_elide.specs.Numbering.{Number}
use Rattle.hir_elide.specs.Occurrences.{is_borrow, is_counting, used_as}
use Rattle.hir_number.specs.Occurrences.{signature_with}
use Rattle.hir_number.specs.Signatures.{Placed}
use Rattle.hir_reports.specs.Texts.{plain_error}
use Rattle.hir_reports.specs.declared.report.LoweringError.{LoweringError}
use Rattle.hir_reports.specs.declared.rule.Rule.TheVariants as rule
use Rattle.hir_rules.specs.LeftOut.{Elides}

-- one of these uses of lifetimes in a signature that declares these elides, after which one and another count
pub record ElisionAmbiguous (declared : LifetimeEnv) (uses : List Placed) (error : LoweringError) : Type 0 where
  pub before : List Placed
  pub elides : Elides uses before
  pub unborrowed : used_as is_borrow (signature_with declared before) ≡ []
  pub one : Number
  pub another : Number
  pub more : List Number
  pub several : used_as is_counting (signature_with declared before) ≡ one ∷ another ∷ more
  pub told : error ≡ plain_error rule.ElisionAmbiguous
