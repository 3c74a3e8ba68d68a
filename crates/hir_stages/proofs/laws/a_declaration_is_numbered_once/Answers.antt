use Rattle.std.specs.Prelude.{None}
use Rattle.hir_number.specs.Signatures.{function_uses, method_uses, without_writer}
use Rattle.hir_stages.proofs.Filled.{fields_are_filled, signature_is_filled, trait_method_is_filled}
use Rattle.hir_stages.proofs.laws.a_declaration_is_numbered_once.Goals as goal

pub returns-clause-method : goal.returns-clause-method
returns-clause-method c = λ names method n is.
    signature_is_filled names method.lifetime_env method.self_param (without_writer method.params) method.return_type (method_uses names method) n is

pub returns-clause-function : goal.returns-clause-function
returns-clause-function c = λ names function n is.
    signature_is_filled names function.lifetimes None (without_writer function.params) function.output_type (function_uses names function) n is

pub returns-clause-trait_method : goal.returns-clause-trait_method
returns-clause-trait_method c = λ names method n is. trait_method_is_filled names method n is

pub returns-clause-fields : goal.returns-clause-fields
returns-clause-fields c = λ names item types are. fields_are_filled names item types are
