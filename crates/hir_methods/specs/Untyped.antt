-- What a method or a function has beside its types: documents, names and marks.
use Rattle.std.specs.Prelude.{ℕ, List, [], ◌++◌, map, Option, Some, None, option_map, if◌then◌else◌}
use Rattle.std.specs.List.{flat_map}
use Rattle.bridge_decl.specs.declared.docs.Docs.{Docs as DeclaredDocs}
use Rattle.bridge_decl.specs.declared.lifetimes.LifetimeEnv.{LifetimeEnv}
use Rattle.bridge_decl.specs.declared.methods.Param.{Param as DeclaredParam}
use Rattle.bridge_decl.specs.declared.methods.SelfParam.{SelfParam}
use Rattle.hir_attrs.specs.Attrs.{empty_attrs}
use Rattle.hir_attrs.specs.Reading.{marks_of}
use Rattle.hir_attrs.specs.declared.attrs.Attrs.{Attrs}
use Rattle.hir_backends.specs.Backend.{Backend}
use Rattle.hir_docs.specs.Docs.{docs_errors, docs_for}
use Rattle.hir_heads.specs.Heads.{lifetime_errors}
use Rattle.hir_heads.specs.Names.{name_errors}
use Rattle.hir_mark_contexts.specs.Told.{tested_errors}
use Rattle.hir_mark_contexts.specs.declared.contexts.MarkContext.TheVariants as marked
use Rattle.hir_reports.specs.declared.report.LoweringError.{LoweringError}
use Rattle.hir_methods.specs.declared.headings.Heading.{Heading}
use Rattle.hir_methods.specs.declared.params.UntypedParam.{UntypedParam}

-- ---- the heading

-- the conditions of its documents, its name, the name of its exported symbol and the names of its lifetimes
abbrev pub heading_errors : Backend → DeclaredDocs → List ℕ → List ℕ → LifetimeEnv → List LoweringError
heading_errors backend docs name abi_name lifetimes =
    docs_errors backend docs
    ++ name_errors name
    ++ name_errors abi_name
    ++ lifetime_errors lifetimes

abbrev pub heading_form : Backend → DeclaredDocs → List ℕ → List ℕ → Heading
heading_form backend docs name abi_name = record { docs = docs_for backend docs; name = name; abi_name = abi_name }

-- ---- the receiver

-- its marks, which start from none
abbrev pub receiver_mark_errors : Backend → Option SelfParam → List LoweringError
receiver_mark_errors backend None = []
receiver_mark_errors backend (Some receiver) = tested_errors backend marked.SelfParam receiver.attrs empty_attrs

abbrev pub receiver_marks : Backend → Option SelfParam → Option Attrs
receiver_marks backend receiver = option_map (λ r. marks_of backend r.attrs empty_attrs) receiver

-- ---- the parameters

-- the name of one, and its marks, which start from none
abbrev pub untyped_errors : Backend → DeclaredParam → List LoweringError
untyped_errors backend param =
    name_errors param.name
    ++ tested_errors backend marked.Param param.attrs empty_attrs

abbrev pub untyped_form : Backend → DeclaredParam → UntypedParam
untyped_form backend param = record { name = param.name; attrs = marks_of backend param.attrs empty_attrs }

-- those of all, one after another
abbrev pub each_untyped_errors : Backend → List DeclaredParam → List LoweringError
each_untyped_errors backend params = flat_map (untyped_errors backend) params

abbrev pub untyped_forms : Backend → List DeclaredParam → List UntypedParam
untyped_forms backend params = map (untyped_form backend) params

-- ---- what is left out

-- nothing else is told of what is disabled
abbrev pub unless_disabled : Attrs → List LoweringError → List LoweringError
unless_disabled attrs errors = if attrs.disable then [] else errors
