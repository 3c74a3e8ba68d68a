-- A declared function: what is told of it, and what it is lowered to.
use Rattle.std.specs.Prelude.{List, [], ◌++◌, map, Option, Some, None, option_map, if◌then◌else◌}
use Rattle.bridge_decl.specs.declared.functions.Function.{Function}
use Rattle.bridge_grid.specs.Items.{free_function_faults}
use Rattle.bridge_grid.specs.Telling.{fault_error}
use Rattle.bridge_order.specs.declared.catalog.Catalog.{Catalog}
use Rattle.hir_attrs.specs.Reading.{marks_of}
use Rattle.hir_attrs.specs.declared.attrs.Attrs.{Attrs}
use Rattle.hir_backends.specs.Backend.{Backend}
use Rattle.hir_backends.specs.declared.support.BackendAttrSupport.{BackendAttrSupport}
use Rattle.hir_definitions.specs.declared.methods.Method.{Method}
use Rattle.hir_life.specs.Environment.{Environment}
use Rattle.hir_config.specs.declared.config.LoweringConfig.{LoweringConfig}
use Rattle.hir_mark_contexts.specs.Told.{tested_errors}
use Rattle.hir_mark_contexts.specs.declared.contexts.MarkContext.TheVariants as marked
use Rattle.hir_number.specs.Naming.{Naming}
use Rattle.hir_number.specs.Signatures.{without_writer}
use Rattle.hir_reports.specs.declared.report.LoweringError.{LoweringError}
use Rattle.hir_types.specs.declared.returns.ReturnType.TheVariants as returned
use Rattle.hir_types.specs.declared.returns.SuccessType.TheVariants as success
use Rattle.hir_methods.specs.Types.{function_type_errors, function_types, whole_of}
use Rattle.hir_methods.specs.Untyped.{each_untyped_errors, heading_errors, heading_form, unless_disabled, untyped_forms}
use Rattle.hir_methods.specs.declared.headings.Heading.{Heading}

-- what is told of an enabled one beside its own marks and its heading: that it may not stand outside types, of its parameters without the
-- trailing writer, and of its types
abbrev pub callable_errors : Backend → BackendAttrSupport → LoweringConfig → Catalog → Naming → Function → List LoweringError
callable_errors backend support config catalog names function =
    map fault_error (free_function_faults support)
    ++ each_untyped_errors backend (without_writer function.params)
    ++ function_type_errors support config catalog names function

-- what is told of one: its marks, which start from those of its parent, its heading, and the rest unless it is disabled
abbrev pub function_errors : Backend → BackendAttrSupport → LoweringConfig → Catalog → Naming → Attrs → Function → List LoweringError
function_errors backend support config catalog names parent function =
    tested_errors backend marked.Function function.attrs parent
    ++ heading_errors backend function.docs function.name function.abi_name function.lifetimes
    ++ unless_disabled (marks_of backend function.attrs parent) (callable_errors backend support config catalog names function)

-- no lifetimes
abbrev pub no_environment : Environment
no_environment = record { bounds = []; count = 0 }

-- a disabled one takes and returns nothing
abbrev pub disabled_form : Attrs → Heading → Method
disabled_form attrs heading =
    record {
      docs = heading.docs;
      name = record { 0 = heading.name };
      abi_name = heading.abi_name;
      lifetime_env = no_environment;
      param_self = None;
      params = [];
      output = returned.Infallible success.Unit;
      attrs = attrs;
    }

-- an enabled one with these marks, where its types have a form
abbrev pub callable_form : Backend → Catalog → Naming → Attrs → Heading → Function → Option Method
callable_form backend catalog names attrs heading function =
    option_map (whole_of attrs heading None (untyped_forms backend (without_writer function.params))) (function_types catalog names function)

-- one with these marks
abbrev pub headed_form : Backend → Catalog → Naming → Attrs → Heading → Function → Option Method
headed_form backend catalog names attrs heading function =
    if attrs.disable then Some (disabled_form attrs heading) else callable_form backend catalog names attrs heading function

-- what it is lowered to
abbrev pub function_form : Backend → Catalog → Naming → Attrs → Function → Option Method
function_form backend catalog names parent function =
    headed_form backend catalog names (marks_of backend function.attrs parent) (heading_form backend function.docs function.name function.abi_name) function
