-- A declared trait: what is told of it and of its methods, each at its place, and what it is lowered to.
use Rattle.std.specs.Prelude.{ℕ, List, [], ◌∷◌, ◌++◌, length, map, filter, not, Option, Some, None, option_map, nat_lt, if◌then◌else◌}
use Rattle.std.specs.List.{flat_map}
use Rattle.bridge_ast.specs.declared.place.ItemPlace.{ItemPlace}
use Rattle.bridge_decl.specs.declared.lifetimes.LifetimeEnv.{LifetimeEnv}
use Rattle.bridge_decl.specs.declared.traits.Trait.{Trait}
use Rattle.bridge_decl.specs.declared.traits.TraitMethod.{TraitMethod}
use Rattle.bridge_grid.specs.Items.{trait_faults}
use Rattle.bridge_grid.specs.Telling.{fault_error}
use Rattle.bridge_order.specs.declared.catalog.Catalog.{Catalog}
use Rattle.hir_attrs.specs.Reading.{marks_of}
use Rattle.hir_attrs.specs.declared.attrs.Attrs.{Attrs}
use Rattle.hir_backends.specs.Backend.{Backend}
use Rattle.hir_backends.specs.declared.support.BackendAttrSupport.{BackendAttrSupport}
use Rattle.hir_definitions.specs.Usage.{unused}
use Rattle.hir_definitions.specs.declared.definitions.TraitDef.{TraitDef}
use Rattle.hir_docs.specs.Docs.{docs_for}
use Rattle.hir_elide.specs.Numbering.{most}
use Rattle.hir_form.specs.ParamForms.{all_given}
use Rattle.hir_heads.specs.Heads.{lifetime_errors, notes_errors}
use Rattle.hir_heads.specs.Names.{name_errors}
use Rattle.hir_items.specs.Opaques.{limit_errors}
use Rattle.hir_items.specs.Placing.{at_item_itself, at_method_of, where_enabled}
use Rattle.hir_life.specs.Declarations.{declared_environment}
use Rattle.hir_config.specs.declared.config.LoweringConfig.{LoweringConfig}
use Rattle.hir_mark_contexts.specs.declared.contexts.MarkContext.TheVariants as marked
use Rattle.hir_methods.specs.Untyped.{unless_disabled}
use Rattle.hir_number.specs.Naming.{Naming}
use Rattle.hir_reports.specs.Store.{at_place, told_at}
use Rattle.hir_reports.specs.Texts.{plain_error}
use Rattle.hir_reports.specs.declared.report.LoweringError.{LoweringError}
use Rattle.hir_reports.specs.declared.report.LoweringReport.{LoweringReport}
use Rattle.hir_reports.specs.declared.rule.Rule.TheVariants as rule
use Rattle.hir_types.specs.declared.callbacks.Callback.{Callback}
use Rattle.hir_traits.specs.TraitMethods.{trait_method_errors, trait_method_form}

-- ---- what is told of the trait itself

-- its name, and the names of its lifetimes
abbrev pub trait_name_errors : Trait → List LoweringError
trait_name_errors item = name_errors item.name ++ lifetime_errors item.lifetimes

-- its marks, which start from these, and the conditions of its documents; its names; what it needs in order to be `Send` or `Sync`; and, where it
-- is enabled, that it has too many lifetimes
abbrev pub own_trait_errors : Backend → BackendAttrSupport → Attrs → Trait → List LoweringError
own_trait_errors backend support start item =
    notes_errors backend marked.Trait start item.docs item.attrs
    ++ trait_name_errors item
    ++ map fault_error (trait_faults support item.is_send item.is_sync)
    ++ unless_disabled (marks_of backend item.attrs start) (limit_errors item.lifetimes)

-- ---- what is told, each at its place

-- of the methods of the trait there, which has that name and that set of marks, in order
abbrev pub trait_methods_reports : Backend → BackendAttrSupport → LoweringConfig → Catalog → Naming → ItemPlace → Attrs → List (List ℕ) → List ℕ → List TraitMethod → List LoweringReport
trait_methods_reports backend support config catalog names place attrs path item methods =
    flat_map (λ method. at_method_of path item method.name (trait_method_errors backend support config catalog names place attrs method)) methods

-- of a trait there, in the module of that path, whose marks start from these: what is told of it itself comes first, and then what is of each method
abbrev pub trait_reports : Backend → BackendAttrSupport → LoweringConfig → Catalog → Naming → ItemPlace → Attrs → List (List ℕ) → Trait → List LoweringReport
trait_reports backend support config catalog names place start path item =
    at_item_itself path item.name (own_trait_errors backend support start item)
    ++ trait_methods_reports backend support config catalog names place (marks_of backend item.attrs start) path item.name
    (where_enabled (marks_of backend item.attrs start) item.methods)

-- ---- what is made

-- the methods that are enabled, where their trait has that set of marks
abbrev pub enabled_methods : Backend → Attrs → List TraitMethod → List TraitMethod
enabled_methods backend attrs methods = filter (λ method. not (marks_of backend method.attrs attrs).disable) methods

-- what they are lowered to, in order, where each has a form
abbrev pub trait_methods_form : Backend → Catalog → Naming → ItemPlace → Attrs → List TraitMethod → Option (List Callback)
trait_methods_form backend catalog names place attrs methods =
    all_given (map (trait_method_form backend catalog names place attrs) (enabled_methods backend attrs methods))

-- a trait with these marks and methods, of which nothing is known yet how it is used
abbrev pub trait_with : Backend → Attrs → Trait → List Callback → TraitDef
trait_with backend attrs item methods =
    record {
      docs = docs_for backend item.docs;
      name = record { 0 = item.name };
      methods = methods;
      attrs = attrs;
      lifetimes = declared_environment item.lifetimes;
      usage = unused;
    }

-- one with these marks
abbrev pub marked_trait_form : Backend → Catalog → Naming → ItemPlace → Attrs → Trait → Option TraitDef
marked_trait_form backend catalog names place attrs item =
    option_map (trait_with backend attrs item) (trait_methods_form backend catalog names place attrs (where_enabled attrs item.methods))

-- what it is lowered to
abbrev pub trait_form : Backend → Catalog → Naming → ItemPlace → Attrs → Trait → Option TraitDef
trait_form backend catalog names place start item = marked_trait_form backend catalog names place (marks_of backend item.attrs start) item
