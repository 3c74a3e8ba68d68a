-- A method or a function without types.
use Rattle.std.specs.Prelude.{List, ◌++◌, Option, None, option_map}
use Rattle.bridge_decl.specs.declared.functions.Function.{Function}
use Rattle.bridge_decl.specs.declared.methods.Method.{Method}
use Rattle.hir_attrs.specs.declared.attrs.Attrs.{Attrs}
use Rattle.hir_backends.specs.Backend.{Backend}
use Rattle.hir_methods.specs.Required.{method_param_errors}
use Rattle.hir_number.specs.Signatures.{without_writer}
use Rattle.hir_reports.specs.declared.report.LoweringError.{LoweringError}
use Rattle.hir_methods.specs.Untyped.{heading_errors, heading_form, receiver_mark_errors, receiver_marks, untyped_forms}
use Rattle.hir_methods.specs.declared.headings.Heading.{Heading}
use Rattle.hir_methods.specs.declared.params.UntypedParam.{UntypedParam}
use Rattle.hir_methods.specs.declared.whole.Untyped.{Untyped}
use Rattle.hir_methods.specs.Choosing.{paired}

-- where there are its heading and its parameters
abbrev pub gathered : Option Heading → Option Attrs → Option (List UntypedParam) → Option Untyped
gathered heading receiver params = option_map (λ p. record { heading = p.0; receiver = receiver; params = p.1 }) (paired heading params)

-- what is told of an enabled method beside its own marks and its types
abbrev pub apart_errors : Backend → Method → List LoweringError
apart_errors backend method =
    heading_errors backend method.docs method.name method.abi_name method.lifetime_env
    ++ receiver_mark_errors backend method.self_param
    ++ method_param_errors backend (without_writer method.params)

-- what that stands for
abbrev pub apart_form : Backend → Method → Untyped
apart_form backend method =
    record {
      heading = heading_form backend method.docs method.name method.abi_name;
      receiver = receiver_marks backend method.self_param;
      params = untyped_forms backend (without_writer method.params);
    }

-- a function's parameters with its heading
abbrev pub callable_head : Backend → Heading → Function → Untyped
callable_head backend heading function = record { heading = heading; receiver = None; params = untyped_forms backend (without_writer function.params) }
