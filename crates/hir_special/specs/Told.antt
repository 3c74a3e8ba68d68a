-- What is told of a special method.
use Rattle.std.specs.Prelude.{List, [], ◌∷◌, ◌++◌, length, not, Option, Some, None}
use Rattle.bridge_telling.specs.Telling.{one_if}
use Rattle.hir_attrs.specs.Reading.{about}
use Rattle.hir_attrs.specs.Special.{special_kind, special_text}
use Rattle.hir_attrs.specs.declared.special.SpecialMethod.{SpecialMethod}
use Rattle.hir_attrs.specs.declared.special.kind.SpecialKind.{SpecialKind}
use Rattle.hir_backends.specs.Support.{flag_text}
use Rattle.hir_backends.specs.declared.support.BackendAttrSupport.{BackendAttrSupport}
use Rattle.hir_backends.specs.declared.support.flag.SupportFlag.{SupportFlag}
use Rattle.hir_definitions.specs.declared.methods.Method.{Method}
use Rattle.hir_ids.specs.declared.ids.TypeId.{TypeId}
use Rattle.hir_reports.specs.Texts.{plain_error}
use Rattle.hir_reports.specs.declared.report.LoweringError.{LoweringError}
use Rattle.hir_reports.specs.declared.rule.Rule.TheVariants as rule
use Rattle.hir_special.specs.Operands.{is_wrong_operand}
use Rattle.hir_special.specs.Receivers.{is_wrong_count, is_wrong_receiver, is_wrong_target}
use Rattle.hir_special.specs.Returns.{is_right_return}
use Rattle.hir_special.specs.Support.{missing_flag}

-- that a flag is missing that the mark needs
abbrev pub needs_error : SpecialKind → SupportFlag → LoweringError
needs_error it missing = record { rule = rule.SpecialSupport; args = special_text it ∷ flag_text missing ∷ [] }

abbrev pub support_errors : SpecialKind → Option SupportFlag → List LoweringError
support_errors it None = []
support_errors it (Some missing) = needs_error it missing ∷ []

-- of a type's method of that kind: of its receiver and its parameters
abbrev pub input_errors : SpecialKind → Method → List LoweringError
input_errors it method =
    one_if (is_wrong_receiver it method.param_self) (about rule.SpecialReceiver (special_text it))
    ++ (one_if (is_wrong_count it (length method.params)) (about rule.SpecialParams (special_text it))
    ++ (one_if (is_wrong_operand it method.param_self method.params) (plain_error rule.SpecialOperand)
    ++ one_if (is_wrong_target it method.param_self) (about rule.AssignReceiver (special_text it))))

-- of its return, and of the backend
abbrev pub output_errors : BackendAttrSupport → TypeId → SpecialKind → Method → List LoweringError
output_errors supports owner it method =
    one_if (not (is_right_return it owner method.output)) (about rule.SpecialReturn (special_text it))
    ++ support_errors it (missing_flag supports it method.param_self method.output)

abbrev pub kind_errors : BackendAttrSupport → TypeId → SpecialKind → Method → List LoweringError
kind_errors supports owner it method = input_errors it method ++ output_errors supports owner it method

abbrev pub marked_errors : BackendAttrSupport → TypeId → Option SpecialMethod → Method → List LoweringError
marked_errors supports owner None method = []
marked_errors supports owner (Some it) method = kind_errors supports owner (special_kind it) method

-- of a method of that type: nothing where it isn't a special one
unfoldable pub special_errors : BackendAttrSupport → TypeId → Method → List LoweringError
special_errors supports owner method = marked_errors supports owner method.attrs.special_method method
