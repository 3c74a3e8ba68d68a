-- What a field has beside its type, and a variant beside its number: a name, marks and documents.
use Rattle.std.specs.Prelude.{ℕ, List, ◌++◌}
use Rattle.std.specs.List.{flat_map}
use Rattle.bridge_decl.specs.declared.attrs.Attrs.{Attrs as DeclaredAttrs}
use Rattle.bridge_decl.specs.declared.docs.Docs.{Docs as DeclaredDocs}
use Rattle.bridge_decl.specs.declared.structs.Field.{Field}
use Rattle.hir_attrs.specs.Attrs.{empty_attrs}
use Rattle.hir_attrs.specs.declared.attrs.Attrs.{Attrs}
use Rattle.hir_backends.specs.Backend.{Backend}
use Rattle.hir_heads.specs.Heads.{notes_errors}
use Rattle.hir_heads.specs.Names.{name_errors}
use Rattle.hir_mark_contexts.specs.declared.contexts.MarkContext.{MarkContext}
use Rattle.hir_reports.specs.declared.report.LoweringError.{LoweringError}

-- that its name is no identifier, and then what its marks break, which start from this set, and the conditions of its documents
abbrev pub head_errors : Backend → MarkContext → Attrs → List ℕ → DeclaredDocs → DeclaredAttrs → List LoweringError
head_errors backend context start name docs attrs = name_errors name ++ notes_errors backend context start docs attrs

-- those of fields, in order: the marks of each start from the empty set
abbrev pub field_head_errors : Backend → MarkContext → Field → List LoweringError
field_head_errors backend context field = head_errors backend context empty_attrs field.name field.docs field.attrs

abbrev pub field_heads_errors : Backend → MarkContext → List Field → List LoweringError
field_heads_errors backend context fields = flat_map (field_head_errors backend context) fields
