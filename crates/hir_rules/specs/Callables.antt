-- Which rules methods, functions and traits' methods break. Of a disabled method only its marks are read; of a disabled function its
-- marks, its documents and its names.
use Rattle.std.specs.Prelude.{◌≡◌, ◌⊎◌, Some}
use Rattle.bridge_ast.specs.declared.place.ItemPlace.{ItemPlace}
use Rattle.bridge_decl.specs.declared.functions.Function.{Function}
use Rattle.bridge_decl.specs.declared.methods.Method.{Method}
use Rattle.bridge_decl.specs.declared.traits.TraitMethod.{TraitMethod}
use Rattle.bridge_grid.specs.ItemBreaks.{FreeFunctionBreaks}
use Rattle.bridge_order.specs.Catalog.{entry_at}
use Rattle.hir_attrs.specs.Reading.{marks_of}
use Rattle.hir_attrs.specs.declared.attrs.Attrs.{Attrs}
use Rattle.hir_definitions.specs.declared.methods.Method.{Method as LoweredMethod}
use Rattle.hir_items.specs.Setting.{Setting}
use Rattle.hir_mark_contexts.specs.declared.contexts.MarkContext.TheVariants as marked
use Rattle.hir_mark_rules.specs.ContextBreaks.{TestedMarksBreak}
use Rattle.hir_mark_rules.specs.MarkBreaks.{DocsBreak, MarksBreak}
use Rattle.hir_methods.specs.Methods.{method_form, owner_id}
use Rattle.hir_number.specs.Signatures.{without_writer}
use Rattle.hir_reports.specs.declared.report.LoweringError.{LoweringError}
use Rattle.hir_special_rules.specs.SpecialBreaks.{SpecialBreaks}
use Rattle.hir_rules.specs.Heads.{HeadingBreaks, IsEnabled, ParamHeadsBreak, ParamNamesBreak, ReceiverMarksBreak}
use Rattle.hir_rules.specs.Types.{AsFaultErrors, FunctionTypesBreak, MethodTypesBreak, TraitMethodTypesBreak}
use Rattle.hir_rules.specs.rules.BadIdent.{BadIdent, BadLifetimeIdent}
use Rattle.hir_rules.specs.rules.RequiredAfterDefault.{RequiredAfterDefault}

-- an enabled method of the type there, beside its own marks: its heading, its receiver, its parameters without the trailing writer, or its
-- types
abbrev pub EnabledMethodBreaks : Setting → ItemPlace → Method → LoweringError → Type 0
EnabledMethodBreaks s owner method error =
    HeadingBreaks s.backend method.docs method.name method.abi_name method.lifetime_env error
    ⊎ (ReceiverMarksBreak s.backend method.self_param error
    ⊎ ((ParamHeadsBreak s.backend (without_writer method.params) error
    ⊎ RequiredAfterDefault s.backend (without_writer method.params) error)
    ⊎ MethodTypesBreak s.support s.config s.catalog s.names owner method error))

-- a method whose marks start from these, but for what it is marked as
abbrev pub PlainMethodBreaks : Setting → ItemPlace → Attrs → Method → LoweringError → Type 0
PlainMethodBreaks s owner start method error =
    TestedMarksBreak s.backend marked.Method method.attrs start error
    ⊎ (IsEnabled (marks_of s.backend method.attrs start) × EnabledMethodBreaks s owner method error)

-- what it is lowered to, where it is enabled and its types have a form, as a special method of the type there
abbrev pub SpecialMethodBreaks : Setting → ItemPlace → Attrs → Method → LoweringError → Type 0
SpecialMethodBreaks s owner start method error =
    (made : LoweredMethod) × ((method_form s.backend s.catalog s.names owner start method ≡ Some made)
    × SpecialBreaks s.support (owner_id (entry_at s.catalog owner)) made error)

-- one whose marks start from these
abbrev pub MethodBreaks : Setting → ItemPlace → Attrs → Method → LoweringError → Type 0
MethodBreaks s owner start method error = PlainMethodBreaks s owner start method error ⊎ SpecialMethodBreaks s owner start method error

-- an enabled function: that it stands outside types, its parameters without the trailing writer, or its types
abbrev pub EnabledFunctionBreaks : Setting → Function → LoweringError → Type 0
EnabledFunctionBreaks s function error =
    AsFaultErrors (FreeFunctionBreaks s.support) error
    ⊎ (ParamHeadsBreak s.backend (without_writer function.params) error
    ⊎ FunctionTypesBreak s.support s.config s.catalog s.names function error)

-- a function whose marks start from these
abbrev pub FunctionBreaks : Setting → Attrs → Function → LoweringError → Type 0
FunctionBreaks s start function error =
    TestedMarksBreak s.backend marked.Function function.attrs start error
    ⊎ (HeadingBreaks s.backend function.docs function.name function.abi_name function.lifetimes error
    ⊎ (IsEnabled (marks_of s.backend function.attrs start) × EnabledFunctionBreaks s function error))

-- an enabled method of the trait there, beside its own marks: its documents, its name, those of its lifetimes and of its parameters, or its
-- types
abbrev pub EnabledTraitMethodBreaks : Setting → ItemPlace → TraitMethod → LoweringError → Type 0
EnabledTraitMethodBreaks s owner method error =
    (DocsBreak s.backend method.docs error
    ⊎ (BadIdent method.name error ⊎ (BadLifetimeIdent method.lifetimes error ⊎ ParamNamesBreak method.params error)))
    ⊎ TraitMethodTypesBreak s.support s.config s.catalog s.names owner method error

-- a method of a trait with this set of marks, from the whole of which its own start
abbrev pub TraitMethodBreaks : Setting → ItemPlace → Attrs → TraitMethod → LoweringError → Type 0
TraitMethodBreaks s owner start method error =
    MarksBreak s.backend method.attrs start error
    ⊎ (IsEnabled (marks_of s.backend method.attrs start) × EnabledTraitMethodBreaks s owner method error)
