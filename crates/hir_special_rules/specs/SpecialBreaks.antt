-- Which rules a special method breaks: each by the file of its name in specs/rules/.
use Rattle.std.specs.Prelude.{◌≡◌, Some}
use Rattle.hir_attrs.specs.Reading.{about}
use Rattle.hir_attrs.specs.Special.{special_kind, special_text}
use Rattle.hir_attrs.specs.declared.special.SpecialMethod.{SpecialMethod}
use Rattle.hir_attrs.specs.declared.special.kind.SpecialKind.{SpecialKind}
use Rattle.hir_backends.specs.declared.support.BackendAttrSupport.{BackendAttrSupport}
use Rattle.hir_backends.specs.declared.support.flag.SupportFlag.{SupportFlag}
use Rattle.hir_definitions.specs.declared.methods.Method.{Method}
use Rattle.hir_ids.specs.declared.ids.TypeId.{TypeId}
use Rattle.hir_reports.specs.Texts.{plain_error}
use Rattle.hir_reports.specs.declared.report.LoweringError.{LoweringError}
use Rattle.hir_reports.specs.declared.rule.Rule.TheVariants as rule
use Rattle.hir_special.specs.Told.{needs_error}
use Rattle.hir_special_rules.specs.rules.AssignReceiver.{AssignReceiver}
use Rattle.hir_special_rules.specs.rules.SpecialOperand.{SpecialOperand}
use Rattle.hir_special_rules.specs.rules.SpecialParams.{SpecialParams}
use Rattle.hir_special_rules.specs.rules.SpecialReceiver.{SpecialReceiver}
use Rattle.hir_special_rules.specs.rules.SpecialReturn.{SpecialReturn}
use Rattle.hir_special_rules.specs.rules.SpecialSupport.{SpecialSupport}

-- a method of that kind, of the type of that id
pub data KindBreaks (supports : BackendAttrSupport) (owner : TypeId) (it : SpecialKind) (method : Method) : LoweringError → Type 0 where
  special_receiver : SpecialReceiver it method → KindBreaks supports owner it method (about rule.SpecialReceiver (special_text it))
  special_params : SpecialParams it method → KindBreaks supports owner it method (about rule.SpecialParams (special_text it))
  special_operand : SpecialOperand it method → KindBreaks supports owner it method (plain_error rule.SpecialOperand)
  assign_receiver : AssignReceiver it method → KindBreaks supports owner it method (about rule.AssignReceiver (special_text it))
  special_return : SpecialReturn owner it method → KindBreaks supports owner it method (about rule.SpecialReturn (special_text it))
  special_support : (flag : SupportFlag) → SpecialSupport supports it method flag → KindBreaks supports owner it method (needs_error it flag)

-- a method of the type of that id, where it is marked as a special one
pub record SpecialBreaks (supports : BackendAttrSupport) (owner : TypeId) (method : Method) (error : LoweringError) : Type 0 where
  pub special : SpecialMethod
  pub marked : method.attrs.special_method ≡ Some special
  pub breaks : KindBreaks supports owner (special_kind special) method error
