-- A declared method of a trait: what is told of it, and what it is lowered to.
use Rattle.std.specs.Prelude.{List, ◌++◌, map, Option, Some, option_map}
use Rattle.std.specs.List.{flat_map}
use Rattle.bridge_ast.specs.declared.place.ItemPlace.{ItemPlace}
use Rattle.bridge_decl.specs.declared.methods.Param.{Param}
use Rattle.bridge_decl.specs.declared.traits.TraitMethod.{TraitMethod}
use Rattle.bridge_order.specs.declared.catalog.Catalog.{Catalog}
use Rattle.hir_attrs.specs.Reading.{marks_errors, marks_of}
use Rattle.hir_attrs.specs.declared.attrs.Attrs.{Attrs}
use Rattle.hir_backends.specs.Backend.{Backend}
use Rattle.hir_backends.specs.declared.support.BackendAttrSupport.{BackendAttrSupport}
use Rattle.hir_docs.specs.Docs.{docs_errors, docs_for}
use Rattle.hir_heads.specs.Heads.{lifetime_errors}
use Rattle.hir_heads.specs.Names.{name_errors}
use Rattle.hir_config.specs.declared.config.LoweringConfig.{LoweringConfig}
use Rattle.hir_methods.specs.Joining.{completed}
use Rattle.hir_methods.specs.Untyped.{unless_disabled}
use Rattle.hir_number.specs.Naming.{Naming}
use Rattle.hir_reports.specs.declared.report.LoweringError.{LoweringError}
use Rattle.hir_types.specs.Named.{ReturnedType}
use Rattle.hir_types.specs.declared.callbacks.Callback.{Callback}
use Rattle.hir_types.specs.declared.callbacks.CallbackParam.{CallbackParam}
use Rattle.hir_traits.specs.TraitTypes.{trait_method_type_errors, trait_method_types}
use Rattle.hir_traits.specs.declared.heads.NamedParam.{NamedParam}
use Rattle.hir_traits.specs.declared.heads.TraitMethodHead.{TraitMethodHead}
use Rattle.hir_traits.specs.declared.judging.TraitMethodTypes.{TraitMethodTypes}

-- ---- what it has beside its marks and its types

-- each name of a parameter that is no identifier; marks of parameters aren't read
abbrev pub param_name_errors : List Param → List LoweringError
param_name_errors params = flat_map (λ param. name_errors param.name) params

-- the conditions of its documents, its name, the names of its lifetimes and those of its parameters
abbrev pub trait_method_head_errors : Backend → TraitMethod → List LoweringError
trait_method_head_errors backend method =
    docs_errors backend method.docs
    ++ name_errors method.name
    ++ lifetime_errors method.lifetimes
    ++ param_name_errors method.params

abbrev pub unmarked_param : Param → NamedParam
unmarked_param param = record { name = param.name }

abbrev pub trait_method_head : Backend → TraitMethod → TraitMethodHead
trait_method_head backend method =
    record {
      docs = docs_for backend method.docs;
      name = method.name;
      params = map unmarked_param method.params;
    }

-- ---- what is told

-- of an enabled one beside its own marks
abbrev pub enabled_trait_method_errors : Backend → BackendAttrSupport → LoweringConfig → Catalog → Naming → ItemPlace → TraitMethod → List LoweringError
enabled_trait_method_errors backend support config catalog names place method =
    trait_method_head_errors backend method
    ++ trait_method_type_errors support config catalog names place method

-- of one of the trait there, which has that set of marks: its own marks start from the whole of it, and of a disabled one nothing else is told
abbrev pub trait_method_errors : Backend → BackendAttrSupport → LoweringConfig → Catalog → Naming → ItemPlace → Attrs → TraitMethod → List LoweringError
trait_method_errors backend support config catalog names place parent method =
    marks_errors backend method.attrs parent
    ++ unless_disabled (marks_of backend method.attrs parent) (enabled_trait_method_errors backend support config catalog names place method)

-- ---- what is made

-- a parameter of a type
abbrev pub callback_param : NamedParam → ReturnedType → CallbackParam
callback_param param ty = record { ty = ty; name = Some param.name }

-- a method of these parts
abbrev pub method_callback : Attrs → TraitMethodHead → TraitMethodTypes → Callback
method_callback attrs head types =
    record {
      param_self = types.param_self;
      params = completed callback_param head.params types.params;
      output = types.output;
      name = Some (record { 0 = head.name });
      attrs = Some attrs;
      docs = Some head.docs;
    }

-- an enabled one with these marks, where its types have a form
abbrev pub enabled_trait_method_form : Backend → Catalog → Naming → ItemPlace → Attrs → TraitMethod → Option Callback
enabled_trait_method_form backend catalog names place attrs method =
    option_map (method_callback attrs (trait_method_head backend method)) (trait_method_types catalog names place method)

-- one of a trait that has that set of marks
abbrev pub trait_method_form : Backend → Catalog → Naming → ItemPlace → Attrs → TraitMethod → Option Callback
trait_method_form backend catalog names place parent method =
    enabled_trait_method_form backend catalog names place (marks_of backend method.attrs parent) method
