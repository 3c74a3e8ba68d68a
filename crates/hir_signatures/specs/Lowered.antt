-- What comes of the types of a method, and of those of a function.
use Rattle.std.specs.Prelude.{Option}
use Rattle.bridge_ast.specs.declared.place.ItemPlace.{ItemPlace}
use Rattle.bridge_decl.specs.declared.functions.Function.{Function}
use Rattle.bridge_decl.specs.declared.methods.Method.{Method}
use Rattle.bridge_decl.specs.declared.types.WriteType.{WriteType}
use Rattle.bridge_order.specs.declared.catalog.Catalog.{Catalog}
use Rattle.hir_backends.specs.declared.support.BackendAttrSupport.{BackendAttrSupport}
use Rattle.hir_form.specs.SignatureForms.{signature_faults}
use Rattle.hir_config.specs.declared.config.LoweringConfig.{LoweringConfig}
use Rattle.hir_number.specs.Breaches.{function_breaches, method_breaches}
use Rattle.hir_number.specs.Naming.{Naming}
use Rattle.hir_number.specs.Numbered.{IsNumberedFunction, IsNumberedMethod}
use Rattle.hir_number.specs.Numbers.{signature_numbers}
use Rattle.hir_number.specs.Signatures.{function_uses, method_uses}
use Rattle.hir_reports.specs.Store.{Held}
use Rattle.hir_signatures.specs.declared.signatures.SignatureTypes.{SignatureTypes}
use Rattle.hir_signatures.specs.Stages.{ComesTo, IsLowered, Stage, types_form}

-- a method of the type there comes so far
abbrev pub MethodComesTo : Naming → ItemPlace → Method → Stage → Type 0
MethodComesTo names owner method =
    ComesTo (method_breaches names owner method) method.lifetime_env (signature_numbers method.lifetime_env (method_uses names method))
    (IsNumberedMethod names method)

-- so it is told of and lowered
abbrev pub IsLoweredMethod : Naming → ItemPlace → BackendAttrSupport → LoweringConfig → Catalog → Option WriteType → Method → Held → Held → Option SignatureTypes → Type 0
IsLoweredMethod names owner support config catalog written method =
    IsLowered (method_breaches names owner method) (MethodComesTo names owner method) (signature_faults support config catalog written)
    (types_form catalog written)

-- a function comes so far
abbrev pub FunctionComesTo : Naming → Function → Stage → Type 0
FunctionComesTo names function =
    ComesTo (function_breaches names function) function.lifetimes (signature_numbers function.lifetimes (function_uses names function))
    (IsNumberedFunction names function)

-- so it is told of and lowered
abbrev pub IsLoweredFunction : Naming → BackendAttrSupport → LoweringConfig → Catalog → Option WriteType → Function → Held → Held → Option SignatureTypes → Type 0
IsLoweredFunction names support config catalog written function =
    IsLowered (function_breaches names function) (FunctionComesTo names function) (signature_faults support config catalog written)
    (types_form catalog written)
