-- What is told and made of types, by the stage that the declaration gives.
use Rattle.std.proofs.Common.{◌≡◌, List, [], ◌∷◌, map, Option, Some, None, refl, sym, ap, ◌∙◌, subst}
use Rattle.bridge_ast.specs.declared.place.ItemPlace.{ItemPlace}
use Rattle.bridge_decl.specs.declared.functions.Function.{Function}
use Rattle.bridge_decl.specs.declared.methods.Method.{Method}
use Rattle.bridge_grid.specs.Telling.{fault_error}
use Rattle.bridge_grid.specs.declared.fault.TypeFault.{TypeFault}
use Rattle.hir_form.specs.Judging.{IsJudged}
use Rattle.hir_number.specs.Breaches.{Broken, function_breaches, method_breaches}
use Rattle.hir_number.specs.Naming.{Naming}
use Rattle.hir_number.specs.Numbered.{IsNumberedFunction, IsNumberedMethod, numbers_of}
use Rattle.hir_number.specs.Numbers.{signature_numbers}
use Rattle.hir_number.specs.Signatures.{function_uses, method_uses, without_writer}
use Rattle.hir_number.specs.declared.signature.NumberedSignature.{NumberedSignature}
use Rattle.hir_reports.specs.Store.{Held, added}
use Rattle.hir_signatures.specs.Lowered.{FunctionComesTo, MethodComesTo}
use Rattle.hir_signatures.specs.Stages.{IsLowered, IsMade, Stage, Breached, Misnamed, Unnumbered, Judged, stage_errors}
use Rattle.hir_signatures.specs.declared.signatures.SignatureTypes.{SignatureTypes}
use Rattle.hir_stages.proofs.Filled.{signature_is_filled}
use Rattle.hir_stages.proofs.Staging.{comes_as_given}
use Rattle.hir_stages.specs.Given.{function_stage, method_stage}
use Rattle.hir_stages.specs.Numbering.{filled_function, filled_method}
use Rattle.hir_methods.specs.Types.{stage_form}
use Rattle.hir_methods.specs.inside.Parts.{GivenUnlessTold}

-- where no error is told, there is no fault
pub unfaulted : (faults : List TypeFault) → map fault_error faults ≡ [] → faults ≡ []
unfaulted [] h = refl
unfaulted (f ∷ fs) h = absurd cc

judged : (faults : List TypeFault) (form answer : Option SignatureTypes) → IsJudged faults form answer → GivenUnlessTold (map fault_error faults) form answer
judged faults form (Some it) is = λ _. sym is.1
judged faults form None is = λ none. absurd (is (unfaulted faults none))

-- at each stage
made_at :
    (breaches : List Broken) (faults : NumberedSignature → List TypeFault) (form : NumberedSignature → Option SignatureTypes) (stage : Stage) (answer : Option SignatureTypes)
    → IsMade faults form stage answer → GivenUnlessTold (stage_errors breaches faults stage) (stage_form form stage) answer
made_at breaches faults form Breached answer made = λ _. made
made_at breaches faults form Misnamed answer made = λ _. made
made_at breaches faults form (Unnumbered fault) answer made = λ _. made
made_at breaches faults form (Judged n) answer made = judged (faults n) (form n) answer made

module _ (breaches : List Broken) (Comes : Stage → Type 0) (faults : NumberedSignature → List TypeFault) (form : NumberedSignature → Option SignatureTypes)
    (given : Stage) (is_given : (stage : Stage) → Comes stage → stage ≡ given) (old new : Held) (answer : Option SignatureTypes)
  where
    pub told_as_given : IsLowered breaches Comes faults form old new answer → new ≡ added old (stage_errors breaches faults given)
    told_as_given is = is.told ∙ ap (λ s. added old (stage_errors breaches faults s)) (is_given is.stage is.comes)

    pub made_as_given : IsLowered breaches Comes faults form old new answer → GivenUnlessTold (stage_errors breaches faults given) (stage_form form given) answer
    made_as_given is =
        subst (λ s. GivenUnlessTold (stage_errors breaches faults s) (stage_form form s) answer) (is_given is.stage is.comes)
        (made_at breaches faults form is.stage answer is.made)

pub method_given : (names : Naming) (owner : ItemPlace) (method : Method) (stage : Stage) → MethodComesTo names owner method stage → stage ≡ method_stage names owner method
method_given names owner method stage comes =
    comes_as_given (method_breaches names owner method) method.lifetime_env (signature_numbers method.lifetime_env (method_uses names method)) (IsNumberedMethod names method)
    (filled_method names method) numbers_of (λ n is. is.numbers)
    (λ n is. signature_is_filled names method.lifetime_env method.self_param (without_writer method.params) method.return_type (method_uses names method) n is) stage comes

pub function_given : (names : Naming) (function : Function) (stage : Stage) → FunctionComesTo names function stage → stage ≡ function_stage names function
function_given names function stage comes =
    comes_as_given (function_breaches names function) function.lifetimes (signature_numbers function.lifetimes (function_uses names function)) (IsNumberedFunction names function)
    (filled_function names function) numbers_of (λ n is. is.numbers)
    (λ n is. signature_is_filled names function.lifetimes None (without_writer function.params) function.output_type (function_uses names function) n is) stage comes
