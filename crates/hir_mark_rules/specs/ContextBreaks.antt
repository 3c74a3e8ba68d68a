-- Which rules the set of marks of a declaration breaks by what is marked: each by the file of its name in specs/rules/.
use Rattle.std.specs.Prelude.{◌≡◌, ◌⊎◌, ℕ, List, true}
use Rattle.bridge_decl.specs.declared.attrs.Attrs.{Attrs as DeclaredAttrs}
use Rattle.hir_reports.specs.Texts.{plain_error}
use Rattle.hir_reports.specs.declared.report.LoweringError.{LoweringError}
use Rattle.hir_reports.specs.declared.rule.Rule.TheVariants as rule
use Rattle.hir_backends.specs.Backend.{Backend}
use Rattle.hir_attrs.specs.Reading.{about, marks_of}
use Rattle.hir_attrs.specs.declared.attrs.Attrs.{Attrs}
use Rattle.hir_mark_contexts.specs.Contexts.{is_tested}
use Rattle.hir_mark_contexts.specs.declared.contexts.MarkContext.{MarkContext}
use Rattle.hir_mark_rules.specs.MarkBreaks.{MarksBreak}
use Rattle.hir_mark_rules.specs.rules.IncludeUnsupported.{IncludeUnsupported}
use Rattle.hir_mark_rules.specs.rules.MarkMisplaced.{MarkMisplaced}

-- a set in a context that is tested
pub data ContextBreaks (backend : Backend) (context : MarkContext) (attrs : Attrs) : LoweringError → Type 0 where
  mark_misplaced : (name : List ℕ) → is_tested context attrs ≡ true → MarkMisplaced context attrs name
      → ContextBreaks backend context attrs (about rule.MarkMisplaced name)
  include_unsupported : is_tested context attrs ≡ true → IncludeUnsupported backend attrs
      → ContextBreaks backend context attrs (plain_error rule.IncludeUnsupported)

-- the marks of a declaration, or the set that they make by what is marked
abbrev pub TestedMarksBreak : Backend → MarkContext → DeclaredAttrs → Attrs → LoweringError → Type 0
TestedMarksBreak backend context declared parent error =
    MarksBreak backend declared parent error ⊎ ContextBreaks backend context (marks_of backend declared parent) error
