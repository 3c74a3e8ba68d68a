use Rattle.std.proofs.Common.{◌≡◌, ◌++◌, Option, None, Some, Bool, true, false, map, is_some, refl, sym, ap, ◌∙◌}
use Rattle.std.specs.Prelude.{if◌then◌else◌}
use Rattle.bridge_grid.specs.Items.{free_function_faults}
use Rattle.bridge_grid.specs.Telling.{fault_error}
use Rattle.bridge_order.specs.Catalog.{entry_at}
use Rattle.hir_attrs.specs.Reading.{marks_of}
use Rattle.hir_docs.specs.Docs.{docs_errors}
use Rattle.hir_form.proofs.EmptyLemmas.{map_given}
use Rattle.hir_heads.specs.Heads.{lifetime_errors}
use Rattle.hir_heads.specs.Names.{name_errors}
use Rattle.hir_mark_contexts.specs.Told.{tested_errors}
use Rattle.hir_mark_contexts.specs.declared.contexts.MarkContext.TheVariants as marked
use Rattle.hir_methods.specs.Required.{method_param_errors}
use Rattle.hir_number.proofs.ElisionLemmas.{none_of}
use Rattle.hir_number.specs.Signatures.{without_writer}
use Rattle.hir_methods.proofs.DisabledLemmas.{enabled_all}
use Rattle.hir_methods.proofs.FormLemmas.{function_formed, method_formed}
use Rattle.hir_methods.specs.Functions.{callable_errors, callable_form, disabled_form}
use Rattle.hir_methods.specs.Methods.{enabled_errors, enabled_form, made_errors, method_errors, method_form, owner_id, plain_method_errors}
use Rattle.hir_methods.specs.Types.{function_type_errors, function_types, method_type_errors, method_types, unless_told, whole_of}
use Rattle.hir_methods.specs.Untyped.{each_untyped_errors, heading_errors, heading_form, receiver_mark_errors, receiver_marks, unless_disabled, untyped_forms}
use Rattle.hir_methods.proofs.laws.what_is_fine_is_made.Goals as goal

-- by a test
either_form : {A : Type 0} (b : Bool) (left_out : A) (form : Option A) → (b ≡ false → is_some form ≡ true) → is_some (if b then Some left_out else form) ≡ true
either_form true left_out form called = refl
either_form false left_out form called = called refl

pub returns-clause-method : goal.returns-clause-method
unfolding method_errors
returns-clause-method c = λ backend support config catalog names owner parent method on none.
    let marks = marks_of backend method.attrs parent in
    let told = plain_method_errors backend support config catalog names owner parent method in
    let form = method_form backend catalog names owner parent method in
    let plain = (none_of told (made_errors support (owner_id (entry_at catalog owner)) (unless_told told form)) none).0 in
    let rest = enabled_errors backend support config catalog names owner method in
    let heading = heading_errors backend method.docs method.name method.abi_name method.lifetime_env in
    let receiver = receiver_mark_errors backend method.self_param in
    let params = method_param_errors backend (without_writer method.params) in
    let types = method_type_errors support config catalog names owner method in
    let all = none_of (heading ++ receiver ++ params) types (sym (enabled_all marks rest on) ∙ (none_of (tested_errors backend marked.Method method.attrs parent) (unless_disabled marks rest) plain).1) in
    let head = (none_of heading receiver (none_of (heading ++ receiver) params all.0).0).0 in
    let named = (none_of (docs_errors backend method.docs ++ name_errors method.name ++ name_errors method.abi_name) (lifetime_errors method.lifetime_env) head).1 in
    ap (λ b. is_some (if b then None else enabled_form backend catalog names owner marks method)) on
    ∙ map_given
    (whole_of marks (heading_form backend method.docs method.name method.abi_name) (receiver_marks backend method.self_param) (untyped_forms backend (without_writer method.params)))
    (method_types catalog names owner method) (method_formed support config catalog names owner method named all.1)

pub returns-clause-function : goal.returns-clause-function
returns-clause-function c = λ backend support config catalog names parent function none.
    let marks = marks_of backend function.attrs parent in
    let rest = callable_errors backend support config catalog names function in
    let own = tested_errors backend marked.Function function.attrs parent in
    let heading = heading_errors backend function.docs function.name function.abi_name function.lifetimes in
    let it = heading_form backend function.docs function.name function.abi_name in
    let form = callable_form backend catalog names marks it function in
    let parts = none_of (own ++ heading) (unless_disabled marks rest) none in
    let named =
    (none_of (docs_errors backend function.docs ++ name_errors function.name ++ name_errors function.abi_name) (lifetime_errors function.lifetimes) (none_of own heading parts.0).1).1 in
    let called : marks.disable ≡ false → is_some form ≡ true = λ on.
    let all =
    none_of (map fault_error (free_function_faults support) ++ each_untyped_errors backend (without_writer function.params)) (function_type_errors support config catalog names function)
    (sym (enabled_all marks rest on) ∙ parts.1) in
    map_given (whole_of marks it None (untyped_forms backend (without_writer function.params))) (function_types catalog names function)
    (function_formed support config catalog names function named all.1) in
    either_form marks.disable (disabled_form marks it) form called
