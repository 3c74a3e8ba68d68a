-- What is told of a method of a type as what it is lowered to.
use Rattle.std.specs.Prelude.{List, ◌++◌}
use Rattle.hir_context.specs.declared.parts.Definitions.{Definitions}
use Rattle.hir_definitions.specs.declared.methods.Method.{Method}
use Rattle.hir_reports.specs.declared.report.LoweringError.{LoweringError}
use Rattle.hir_validation.specs.ImpliedBounds.{method_bound_errors}
use Rattle.hir_validation.specs.Returned.{method_returned_errors}
use Rattle.hir_validation.specs.Signatures.{receiver_errors}

-- of its receiver, of the bounds that its types imply, and of the lifetimes that it returns
unfoldable pub method_rule_errors : Definitions → Method → List LoweringError
method_rule_errors defs method = receiver_errors defs method.param_self ++ (method_bound_errors defs method ++ method_returned_errors method)
