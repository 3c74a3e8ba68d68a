use Rattle.std.specs.Prelude.{None}
use Rattle.hir_number.specs.Breaches.{function_breaches, method_breaches}
use Rattle.hir_number.specs.Numbered.{IsNumberedFunction, IsNumberedMethod, numbers_of}
use Rattle.hir_number.specs.Numbers.{signature_numbers}
use Rattle.hir_number.specs.Signatures.{function_uses, method_uses, without_writer}
use Rattle.hir_stages.specs.Numbering.{filled_function, filled_method}
use Rattle.hir_stages.proofs.Filled.{signature_is_filled}
use Rattle.hir_stages.proofs.Staging.{comes_as_given}
use Rattle.hir_stages.proofs.laws.stages_are_given.Goals as goal

pub returns-clause-method : goal.returns-clause-method
returns-clause-method c = λ names owner method stage comes.
    comes_as_given (method_breaches names owner method) method.lifetime_env (signature_numbers method.lifetime_env (method_uses names method)) (IsNumberedMethod names method)
    (filled_method names method) numbers_of (λ n is. is.numbers)
    (λ n is. signature_is_filled names method.lifetime_env method.self_param (without_writer method.params) method.return_type (method_uses names method) n is) stage comes

pub returns-clause-function : goal.returns-clause-function
returns-clause-function c = λ names function stage comes.
    comes_as_given (function_breaches names function) function.lifetimes (signature_numbers function.lifetimes (function_uses names function)) (IsNumberedFunction names function)
    (filled_function names function) numbers_of (λ n is. is.numbers)
    (λ n is. signature_is_filled names function.lifetimes None (without_writer function.params) function.output_type (function_uses names function) n is) stage comes
