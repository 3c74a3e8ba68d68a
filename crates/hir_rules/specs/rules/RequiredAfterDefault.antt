-- RequiredAfterDefault: a parameter of a method has no default value, and one before it has.
use Rattle.std.specs.Prelude.{◌≡◌, List, ◌∷◌, ◌++◌, true, false}
use Rattle.std.specs.List.{list_any}
use Rattle.bridge_decl.specs.declared.methods.Param.{Param}
use Rattle.hir_attrs.specs.Reading.{about}
use Rattle.hir_backends.specs.Backend.{Backend}
use Rattle.hir_methods.specs.Required.{has_default}
use Rattle.hir_reports.specs.declared.report.LoweringError.{LoweringError}
use Rattle.hir_reports.specs.declared.rule.Rule.TheVariants as rule

pub record RequiredAfterDefault (backend : Backend) (params : List Param) (error : LoweringError) : Type 0 where
  pub before : List Param
  pub it : Param
  pub after : List Param
  pub listed : params ≡ before ++ it ∷ after
  pub given : list_any (has_default backend) before ≡ true
  pub missing : has_default backend it ≡ false
  pub says : error ≡ about rule.RequiredAfterDefault it.name
