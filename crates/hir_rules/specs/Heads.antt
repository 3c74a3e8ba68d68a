-- Which rules what a declaration has beside its types breaks: its names, its marks and the conditions of its documents.
use Rattle.std.specs.Prelude.{◌≡◌, ◌⊎◌, ℕ, List, false, Option, Some, None}
use Rattle.std.specs.List.{Contains}
use Rattle.bridge_decl.specs.declared.attrs.Attrs.{Attrs as DeclaredAttrs}
use Rattle.bridge_decl.specs.declared.docs.Docs.{Docs as DeclaredDocs}
use Rattle.bridge_decl.specs.declared.enums.Variant.{Variant}
use Rattle.bridge_decl.specs.declared.lifetimes.LifetimeEnv.{LifetimeEnv}
use Rattle.bridge_decl.specs.declared.methods.Param.{Param}
use Rattle.bridge_decl.specs.declared.methods.SelfParam.{SelfParam}
use Rattle.bridge_decl.specs.declared.structs.Field.{Field}
use Rattle.bridge_text.specs.declared.rename.AttrInheritContext.TheVariants as context
use Rattle.hir_attrs.specs.Attrs.{empty_attrs, inherited}
use Rattle.hir_attrs.specs.declared.attrs.Attrs.{Attrs}
use Rattle.hir_backends.specs.Backend.{Backend}
use Rattle.hir_mark_contexts.specs.declared.contexts.MarkContext.TheVariants as marked
use Rattle.hir_mark_contexts.specs.declared.contexts.MarkContext.{MarkContext}
use Rattle.hir_mark_rules.specs.ContextBreaks.{TestedMarksBreak}
use Rattle.hir_mark_rules.specs.MarkBreaks.{DocsBreak}
use Rattle.hir_reports.specs.declared.report.LoweringError.{LoweringError}
use Rattle.hir_rules.specs.rules.BadIdent.{BadIdent, BadLifetimeIdent}

-- what has these marks isn't disabled
abbrev pub IsEnabled : Attrs → Type 0
IsEnabled marks = marks.disable ≡ false

-- the marks of what is of that kind, which start from this set, or the conditions of the documents
abbrev pub NotesBreak : Backend → MarkContext → Attrs → DeclaredDocs → DeclaredAttrs → LoweringError → Type 0
NotesBreak backend what start docs attrs error = TestedMarksBreak backend what attrs start error ⊎ DocsBreak backend docs error

-- the name, or these
abbrev pub HeadBreaks : Backend → MarkContext → Attrs → List ℕ → DeclaredDocs → DeclaredAttrs → LoweringError → Type 0
HeadBreaks backend what start name docs attrs error = BadIdent name error ⊎ NotesBreak backend what start docs attrs error

-- one of the variants of an enum, whose marks start from what a variant takes over of the enum's set
abbrev pub VariantsBreak : Backend → Attrs → List Variant → LoweringError → Type 0
VariantsBreak backend enum_set variants error =
    (v : Variant) × (Contains variants v × HeadBreaks backend marked.EnumVariant (inherited enum_set context.Variant) v.name v.docs v.attrs error)

-- one of the fields of a struct or an out-struct, whose marks start from none
abbrev pub FieldHeadsBreak : Backend → MarkContext → List Field → LoweringError → Type 0
FieldHeadsBreak backend what fields error =
    (f : Field) × (Contains fields f × HeadBreaks backend what empty_attrs f.name f.docs f.attrs error)

-- the documents, the name, the name of the exported symbol, or that of a lifetime, of a method or a function
abbrev pub HeadingBreaks : Backend → DeclaredDocs → List ℕ → List ℕ → LifetimeEnv → LoweringError → Type 0
HeadingBreaks backend docs name abi_name lifetimes error =
    DocsBreak backend docs error ⊎ (BadIdent name error ⊎ (BadIdent abi_name error ⊎ BadLifetimeIdent lifetimes error))

-- the marks of the receiver, which start from none
abbrev pub ReceiverMarksBreak : Backend → Option SelfParam → LoweringError → Type 0
ReceiverMarksBreak backend (Some receiver) error = TestedMarksBreak backend marked.SelfParam receiver.attrs empty_attrs error
ReceiverMarksBreak backend None error = ⊥

-- one of the parameters: its name, or its marks, which start from none
abbrev pub ParamHeadsBreak : Backend → List Param → LoweringError → Type 0
ParamHeadsBreak backend params error =
    (p : Param) × (Contains params p × (BadIdent p.name error ⊎ TestedMarksBreak backend marked.Param p.attrs empty_attrs error))

-- in a trait's method the name alone: marks of its parameters aren't read
abbrev pub ParamNamesBreak : List Param → LoweringError → Type 0
ParamNamesBreak params error = (p : Param) × (Contains params p × BadIdent p.name error)
