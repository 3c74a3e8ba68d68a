-- To which stage the types of a method or of a function come.
use Rattle.std.specs.Prelude.{List, [], ◌∷◌, Result, Ok, Err}
use Rattle.bridge_ast.specs.declared.place.ItemPlace.{ItemPlace}
use Rattle.bridge_decl.specs.declared.functions.Function.{Function}
use Rattle.bridge_decl.specs.declared.methods.Method.{Method}
use Rattle.hir_heads.specs.Heads.{lifetime_errors}
use Rattle.hir_number.specs.Breaches.{Broken, function_breaches, method_breaches}
use Rattle.hir_number.specs.Naming.{Naming}
use Rattle.hir_number.specs.Numbers.{signature_numbers}
use Rattle.hir_number.specs.Shapes.{NumberLists}
use Rattle.hir_number.specs.Signatures.{function_uses, method_uses}
use Rattle.hir_number.specs.declared.fault.NumberFault.{NumberFault}
use Rattle.hir_number.specs.declared.signature.NumberedSignature.{NumberedSignature}
use Rattle.hir_reports.specs.declared.report.LoweringError.{LoweringError}
use Rattle.hir_signatures.specs.Stages.{Stage, Breached, Misnamed, Unnumbered, Judged}
use Rattle.hir_stages.specs.Numbering.{filled_function, filled_method}

-- where the names are identifiers: by what the uses are numbered to
abbrev pub numbered_stage : (NumberLists → NumberedSignature) → Result NumberLists NumberFault → Stage
numbered_stage filled (Err fault) = Unnumbered fault
numbered_stage filled (Ok numbers) = Judged (filled numbers)

-- where there are no breaches: by what is told of the declared names
abbrev pub named_stage : Stage → List LoweringError → Stage
named_stage numbered [] = numbered
named_stage numbered (e ∷ es) = Misnamed

-- by the breaches
abbrev pub breached_stage : Stage → List Broken → Stage
breached_stage named [] = named
breached_stage named (b ∷ bs) = Breached

-- a method of the type there
abbrev pub method_stage : Naming → ItemPlace → Method → Stage
method_stage names owner method =
    breached_stage (named_stage (numbered_stage (filled_method names method) (signature_numbers method.lifetime_env (method_uses names method)))
    (lifetime_errors method.lifetime_env)) (method_breaches names owner method)

-- a function
abbrev pub function_stage : Naming → Function → Stage
function_stage names function =
    breached_stage (named_stage (numbered_stage (filled_function names function) (signature_numbers function.lifetimes (function_uses names function)))
    (lifetime_errors function.lifetimes)) (function_breaches names function)
