-- What is told of documents is what breaks a rule.
use Rattle.std.proofs.Common.{◌≡◌, [], false, refl, sym, subst}
use Rattle.std.specs.List.{Contains}
use Rattle.bridge_telling.specs.Telling.{TellsExactly}
use Rattle.bridge_telling.proofs.ExactLemmas.{exactly_as, exactly_each, in_first, in_none, in_one}
use Rattle.bridge_decl.specs.declared.docs.DocBlock.{DocBlock}
use Rattle.bridge_decl.specs.declared.docs.Docs.{Docs as DeclaredDocs}
use Rattle.hir_reports.specs.Texts.{plain_error}
use Rattle.hir_reports.specs.declared.report.LoweringError.{LoweringError}
use Rattle.hir_reports.specs.declared.rule.Rule.TheVariants as rule
use Rattle.hir_backends.specs.Backend.{Backend}
use Rattle.hir_backends.specs.Conditions.{condition_met, met_errors}
use Rattle.hir_backends.specs.declared.conditions.CfgFault.TheVariants as fault
use Rattle.hir_backends.specs.declared.conditions.Met.{Met}
use Rattle.hir_backends.specs.declared.conditions.Met.TheVariants.{Holds, Fails, Faulty}
use Rattle.hir_docs.specs.Docs.{block_errors, docs_errors}
use Rattle.hir_mark_rules.specs.MarkBreaks.{DocsBreak}
use Rattle.hir_mark_rules.specs.rules.AutoMisplaced.{AutoMisplaced}
use Rattle.hir_mark_rules.specs.rules.UnknownPair.{UnknownPair}

-- a block's condition breaks a rule
data BlockBreaks (backend : Backend) (block : DocBlock) : LoweringError → Type 0 where
  auto_misplaced : AutoMisplaced backend false block.cfg → BlockBreaks backend block (plain_error rule.AutoMisplaced)
  unknown_pair : UnknownPair backend false block.cfg → BlockBreaks backend block (plain_error rule.UnknownPair)

block_told : (backend : Backend) (block : DocBlock) (e : LoweringError) (met : Met) → condition_met backend block.cfg false ≡ met → Contains (met_errors met) e → BlockBreaks backend block e
block_told backend block e (Holds by_auto) is h = absurd (in_none e h)
block_told backend block e Fails is h = absurd (in_none e h)
block_told backend block e (Faulty fault.AutoMisplaced) is h = subst (λ x. BlockBreaks backend block x) (sym (in_one (plain_error rule.AutoMisplaced) e h)) (BlockBreaks.auto_misplaced is)
block_told backend block e (Faulty fault.UnknownPair) is h = subst (λ x. BlockBreaks backend block x) (sym (in_one (plain_error rule.UnknownPair) e h)) (BlockBreaks.unknown_pair is)

block_breaks : (backend : Backend) (block : DocBlock) (e : LoweringError) → BlockBreaks backend block e → Contains (block_errors backend block) e
block_breaks backend block e (BlockBreaks.auto_misplaced is) = subst (λ met. Contains (met_errors met) (plain_error rule.AutoMisplaced)) (sym is) (in_first (plain_error rule.AutoMisplaced) [])
block_breaks backend block e (BlockBreaks.unknown_pair is) = subst (λ met. Contains (met_errors met) (plain_error rule.UnknownPair)) (sym is) (in_first (plain_error rule.UnknownPair) [])

block_exactly : (backend : Backend) (block : DocBlock) → TellsExactly (block_errors backend block) (BlockBreaks backend block)
block_exactly backend block e = (λ h. block_told backend block e (condition_met backend block.cfg false) refl h, λ h. block_breaks backend block e h)

docs_break : (backend : Backend) (docs : DeclaredDocs) (block : DocBlock) (e : LoweringError) → Contains docs.blocks block → BlockBreaks backend block e → DocsBreak backend docs e
docs_break backend docs block e in' (BlockBreaks.auto_misplaced is) = DocsBreak.auto_misplaced block in' is
docs_break backend docs block e in' (BlockBreaks.unknown_pair is) = DocsBreak.unknown_pair block in' is

one_block : (backend : Backend) (docs : DeclaredDocs) (e : LoweringError) → DocsBreak backend docs e → (block : DocBlock) × (Contains docs.blocks block × BlockBreaks backend block e)
one_block backend docs e (DocsBreak.auto_misplaced block in' is) = (block, (in', BlockBreaks.auto_misplaced is))
one_block backend docs e (DocsBreak.unknown_pair block in' is) = (block, (in', BlockBreaks.unknown_pair is))

-- of all blocks of documents
pub docs_exactly : (backend : Backend) (docs : DeclaredDocs) → TellsExactly (docs_errors backend docs) (DocsBreak backend docs)
docs_exactly backend docs = exactly_as (docs_errors backend docs) (λ e. (block : DocBlock) × (Contains docs.blocks block × BlockBreaks backend block e)) (DocsBreak backend docs) (λ e. (λ h. docs_break backend docs h.0 e h.1.0 h.1.1, λ h. one_block backend docs e h)) (exactly_each (block_errors backend) (λ block e. BlockBreaks backend block e) (block_exactly backend) docs.blocks)
