-- The types of a method or a function, by the stage to which they come, and the whole that they are joined to.
use Rattle.std.specs.Prelude.{List, [], ◌∷◌, Option, None}
use Rattle.bridge_ast.specs.declared.place.ItemPlace.{ItemPlace}
use Rattle.bridge_decl.specs.declared.functions.Function.{Function}
use Rattle.bridge_decl.specs.declared.methods.Method.{Method as DeclaredMethod}
use Rattle.bridge_order.specs.declared.catalog.Catalog.{Catalog}
use Rattle.hir_attrs.specs.declared.attrs.Attrs.{Attrs}
use Rattle.hir_backends.specs.declared.support.BackendAttrSupport.{BackendAttrSupport}
use Rattle.hir_definitions.specs.declared.methods.Method.{Method}
use Rattle.hir_definitions.specs.declared.methods.Param.{Param}
use Rattle.hir_definitions.specs.declared.methods.ParamSelf.{ParamSelf}
use Rattle.hir_form.specs.ParamForms.{ParamType}
use Rattle.hir_form.specs.ReturnForms.{both_given}
use Rattle.hir_form.specs.SignatureForms.{signature_faults}
use Rattle.hir_config.specs.declared.config.LoweringConfig.{LoweringConfig}
use Rattle.hir_number.specs.Breaches.{function_breaches, method_breaches}
use Rattle.hir_number.specs.Naming.{Naming}
use Rattle.hir_number.specs.declared.signature.NumberedSignature.{NumberedSignature}
use Rattle.hir_reports.specs.declared.report.LoweringError.{LoweringError}
use Rattle.hir_signatures.specs.Stages.{Stage, Breached, Misnamed, Unnumbered, Judged, stage_errors, types_form}
use Rattle.hir_signatures.specs.declared.signatures.SignatureTypes.{SignatureTypes}
use Rattle.hir_special.specs.Partial.{with_partial}
use Rattle.hir_stages.specs.Given.{function_stage, method_stage}
use Rattle.hir_types.specs.declared.self_types.SelfType.{SelfType}
use Rattle.hir_methods.specs.Joining.{completed}
use Rattle.hir_methods.specs.Writers.{trailing_writer}
use Rattle.hir_methods.specs.declared.headings.Heading.{Heading}
use Rattle.hir_methods.specs.declared.params.UntypedParam.{UntypedParam}

-- ---- what is told and made of types

-- at a stage before types are judged there is no form
abbrev pub stage_form : (NumberedSignature → Option SignatureTypes) → Stage → Option SignatureTypes
stage_form form Breached = None
stage_form form Misnamed = None
stage_form form (Unnumbered fault) = None
stage_form form (Judged n) = form n

-- of a method of the type there: what its writer takes counts with its types
abbrev pub method_type_errors : BackendAttrSupport → LoweringConfig → Catalog → Naming → ItemPlace → DeclaredMethod → List LoweringError
method_type_errors support config catalog names owner method =
    stage_errors (method_breaches names owner method)
    (signature_faults support config catalog (trailing_writer method.params)) (method_stage names owner method)

abbrev pub method_types : Catalog → Naming → ItemPlace → DeclaredMethod → Option SignatureTypes
method_types catalog names owner method =
    stage_form (types_form catalog (trailing_writer method.params)) (method_stage names owner method)

-- of a function
abbrev pub function_type_errors : BackendAttrSupport → LoweringConfig → Catalog → Naming → Function → List LoweringError
function_type_errors support config catalog names function =
    stage_errors (function_breaches names function)
    (signature_faults support config catalog (trailing_writer function.params)) (function_stage names function)

abbrev pub function_types : Catalog → Naming → Function → Option SignatureTypes
function_types catalog names function =
    stage_form (types_form catalog (trailing_writer function.params)) (function_stage names function)

-- ---- the whole

-- a parameter of a type
abbrev pub typed_param : UntypedParam → ParamType → Param
typed_param param ty = record { name = param.name; ty = ty; attrs = param.attrs }

-- a receiver of a type
abbrev pub typed_receiver : SelfType → Attrs → ParamSelf
typed_receiver ty attrs = record { ty = ty; attrs = attrs }

-- a method or a function of these parts: by its return a comparison's mark says whether it is partial
abbrev pub whole_of : Attrs → Heading → Option Attrs → List UntypedParam → SignatureTypes → Method
whole_of attrs heading receiver params it =
    record {
      docs = heading.docs;
      name = record { 0 = heading.name };
      abi_name = heading.abi_name;
      lifetime_env = it.lifetimes;
      param_self = both_given typed_receiver it.types.param_self receiver;
      params = completed typed_param params it.types.params;
      output = it.types.output;
      attrs = with_partial it.types.output attrs;
    }

-- ---- the answer

-- what there is where nothing is told
abbrev pub unless_told : {A : Type 0} → List LoweringError → Option A → Option A
unless_told [] form = form
unless_told (e ∷ es) form = None
