-- Which rules marks break, and the conditions of documents: each by the file of its name in specs/rules/.
use Rattle.std.specs.Prelude.{◌≡◌, ℕ, List, [], ◌∷◌, ◌++◌, true, false}
use Rattle.std.specs.List.{Contains}
use Rattle.bridge_decl.specs.declared.attrs.Attrs.{Attrs as DeclaredAttrs}
use Rattle.bridge_decl.specs.declared.attrs.DiplomatBackendAttr.{DiplomatBackendAttr}
use Rattle.bridge_decl.specs.declared.docs.DocBlock.{DocBlock}
use Rattle.bridge_decl.specs.declared.docs.Docs.{Docs as DeclaredDocs}
use Rattle.hir_reports.specs.Texts.{plain_error}
use Rattle.hir_reports.specs.declared.report.LoweringError.{LoweringError}
use Rattle.hir_reports.specs.declared.rule.Rule.TheVariants as rule
use Rattle.hir_backends.specs.Backend.{Backend}
use Rattle.hir_attrs.specs.Reading.{about, first_set, marks_from}
use Rattle.hir_attrs.specs.declared.attrs.Attrs.{Attrs}
use Rattle.hir_mark_rules.specs.rules.AutoMisplaced.{AutoMisplaced}
use Rattle.hir_mark_rules.specs.rules.UnknownPair.{UnknownPair}
use Rattle.hir_mark_rules.specs.rules.MarkUnsupported.{MarkUnsupported}
use Rattle.hir_mark_rules.specs.rules.SecondSpecial.{SecondSpecial}
use Rattle.hir_mark_rules.specs.rules.MarkArgument.{MarkArgument}
use Rattle.hir_mark_rules.specs.rules.MarkRepeated.{MarkRepeated}
use Rattle.hir_mark_rules.specs.rules.AutoIneligible.{AutoIneligible}
use Rattle.hir_mark_rules.specs.rules.BadInclude.{BadInclude}
use Rattle.hir_mark_rules.specs.rules.IncludeRepeated.{IncludeRepeated}
use Rattle.hir_mark_rules.specs.rules.BadDefaultValue.{BadDefaultValue}
use Rattle.hir_mark_rules.specs.rules.UnknownMark.{UnknownMark}

-- a mark after those that made the set, with what is told of it
pub data MarkBreaks (backend : Backend) (attrs : Attrs) (it : DiplomatBackendAttr) : LoweringError → Type 0 where
  auto_misplaced : AutoMisplaced backend true it.cfg → MarkBreaks backend attrs it (plain_error rule.AutoMisplaced)
  unknown_pair : UnknownPair backend true it.cfg → MarkBreaks backend attrs it (plain_error rule.UnknownPair)
  mark_unsupported : (name : List ℕ) → MarkUnsupported backend it name
      → MarkBreaks backend attrs it (record { rule = rule.MarkUnsupported; args = name ∷ backend.primary_name ∷ [] })
  second_special : (name : List ℕ) → SecondSpecial backend attrs it name
      → MarkBreaks backend attrs it (about rule.SecondSpecial name)
  mark_argument : (name : List ℕ) → MarkArgument backend it name → MarkBreaks backend attrs it (about rule.MarkArgument name)
  mark_repeated : (name : List ℕ) → MarkRepeated backend attrs it name
      → MarkBreaks backend attrs it (about rule.MarkRepeated name)
  auto_ineligible : (name : List ℕ) → AutoIneligible backend it name
      → MarkBreaks backend attrs it (about rule.AutoIneligible name)
  bad_include : BadInclude backend it → MarkBreaks backend attrs it (plain_error rule.BadInclude)
  include_repeated : IncludeRepeated backend attrs it → MarkBreaks backend attrs it (plain_error rule.IncludeRepeated)
  bad_default_value : BadDefaultValue backend it → MarkBreaks backend attrs it (plain_error rule.BadDefaultValue)
  unknown_mark : (name : List ℕ) → UnknownMark backend it name → MarkBreaks backend attrs it (about rule.UnknownMark name)

-- a mark of a declaration breaks a rule, read after those before it
pub record MarksBreak (backend : Backend) (declared : DeclaredAttrs) (parent : Attrs) (error : LoweringError) : Type 0 where
  pub before : List DiplomatBackendAttr
  pub it : DiplomatBackendAttr
  pub after : List DiplomatBackendAttr
  pub listed : declared.marks ≡ before ++ it ∷ after
  pub breaks : MarkBreaks backend (marks_from backend (first_set backend declared parent) before) it error

-- the condition of a block of documents breaks a rule; `auto` isn't allowed in it
pub data DocsBreak (backend : Backend) (docs : DeclaredDocs) : LoweringError → Type 0 where
  auto_misplaced : (block : DocBlock) → Contains docs.blocks block → AutoMisplaced backend false block.cfg
      → DocsBreak backend docs (plain_error rule.AutoMisplaced)
  unknown_pair : (block : DocBlock) → Contains docs.blocks block → UnknownPair backend false block.cfg
      → DocsBreak backend docs (plain_error rule.UnknownPair)
