-- What is told of the variants of an enum, and what they stand for.
use Rattle.std.specs.Prelude.{List, map}
use Rattle.std.specs.List.{flat_map}
use Rattle.bridge_decl.specs.declared.enums.Variant.{Variant}
use Rattle.bridge_text.specs.declared.rename.AttrInheritContext.TheVariants as context
use Rattle.hir_attrs.specs.Attrs.{inherited}
use Rattle.hir_attrs.specs.Reading.{marks_of}
use Rattle.hir_attrs.specs.declared.attrs.Attrs.{Attrs}
use Rattle.hir_backends.specs.Backend.{Backend}
use Rattle.hir_definitions.specs.declared.definitions.EnumVariant.{EnumVariant}
use Rattle.hir_docs.specs.Docs.{docs_for}
use Rattle.hir_mark_contexts.specs.declared.contexts.MarkContext.TheVariants as marked
use Rattle.hir_reports.specs.declared.report.LoweringError.{LoweringError}
use Rattle.hir_fields.specs.Heads.{head_errors}

-- its name, marks and documents: the marks start from what a variant takes over from the set of the enum
abbrev pub variant_errors : Backend → Attrs → Variant → List LoweringError
variant_errors backend enum_set variant = head_errors backend marked.EnumVariant (inherited enum_set context.Variant) variant.name variant.docs variant.attrs

-- each by itself, in order
abbrev pub variants_errors : Backend → Attrs → List Variant → List LoweringError
variants_errors backend enum_set variants = flat_map (variant_errors backend enum_set) variants

-- the variant for the backend
abbrev pub variant_form : Backend → Attrs → Variant → EnumVariant
variant_form backend enum_set variant =
    record {
      docs = docs_for backend variant.docs;
      name = variant.name;
      discriminant = variant.discriminant;
      attrs = marks_of backend variant.attrs (inherited enum_set context.Variant);
    }

-- each, in order
abbrev pub variants_form : Backend → Attrs → List Variant → List EnumVariant
variants_form backend enum_set variants = map (variant_form backend enum_set) variants
