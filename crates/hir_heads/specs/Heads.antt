-- What is told of the heads of declarations: of lifetimes, marks and documents.
use Rattle.std.specs.Prelude.{List, ◌++◌}
use Rattle.std.specs.List.{flat_map}
use Rattle.bridge_decl.specs.declared.attrs.Attrs.{Attrs as DeclaredAttrs}
use Rattle.bridge_decl.specs.declared.docs.Docs.{Docs as DeclaredDocs}
use Rattle.bridge_decl.specs.declared.lifetimes.LifetimeEnv.{LifetimeEnv}
use Rattle.hir_attrs.specs.Reading.{marks_of}
use Rattle.hir_attrs.specs.declared.attrs.Attrs.{Attrs}
use Rattle.hir_backends.specs.Backend.{Backend}
use Rattle.hir_docs.specs.Docs.{docs_errors, docs_for}
use Rattle.hir_mark_contexts.specs.Told.{tested_errors}
use Rattle.hir_mark_contexts.specs.declared.contexts.MarkContext.{MarkContext}
use Rattle.hir_reports.specs.declared.report.LoweringError.{LoweringError}
use Rattle.hir_heads.specs.declared.notes.Notes.{Notes}
use Rattle.hir_heads.specs.Names.{name_errors}

-- each name of a lifetime that is no identifier
abbrev pub lifetime_errors : LifetimeEnv → List LoweringError
lifetime_errors env = flat_map (λ node. name_errors node.name) env.nodes

-- what its marks break, which start from those of its parent; what they break by what is marked; and then the conditions of its documents
abbrev pub notes_errors : Backend → MarkContext → Attrs → DeclaredDocs → DeclaredAttrs → List LoweringError
notes_errors backend context parent docs attrs = tested_errors backend context attrs parent ++ docs_errors backend docs

-- its marks and its documents for the backend
abbrev pub notes_form : Backend → Attrs → DeclaredDocs → DeclaredAttrs → Notes
notes_form backend parent docs attrs = record { docs = docs_for backend docs; attrs = marks_of backend attrs parent }
