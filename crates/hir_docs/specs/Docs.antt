-- What documents a declaration for one backend.
use Rattle.std.specs.Prelude.{ℕ, List, [], ◌∷◌, ◌++◌, codes, Bool, true, false}
use Rattle.std.specs.List.{flat_map}
use Rattle.bridge_decl.specs.declared.docs.DocBlock.{DocBlock}
use Rattle.bridge_decl.specs.declared.docs.Docs.{Docs}
use Rattle.bridge_decl.specs.declared.docs.RustLink.{RustLink}
use Rattle.hir_reports.specs.declared.report.LoweringError.{LoweringError}
use Rattle.hir_backends.specs.declared.conditions.Met.{Met}
use Rattle.hir_backends.specs.declared.conditions.Met.TheVariants.{Holds, Fails, Faulty}
use Rattle.hir_backends.specs.Backend.{Backend}
use Rattle.hir_backends.specs.Conditions.{condition_met, met_errors}

-- the lines that are meant for it, and the links to Rust's documentation
pub record Documented : Type 0 where
  pub lines : List ℕ
  pub links : List RustLink

-- lines and more of them, with a line feed between where text stands before
abbrev pub continued : List ℕ → List ℕ → List ℕ
continued [] more = more
continued (c ∷ cs) more = (c ∷ cs) ++ codes "\n" ++ more

-- a block's lines count where its condition is met
abbrev pub lines_if : Met → List ℕ → List ℕ → List ℕ
lines_if (Holds by_auto) before more = continued before more
lines_if Fails before more = before
lines_if (Faulty fault) before more = before

-- the lines before a block and those that it adds; `auto` isn't allowed in its condition
abbrev pub read_lines : Backend → List ℕ → DocBlock → List ℕ
read_lines backend before block = lines_if (condition_met backend block.cfg false) before block.lines

-- the lines of blocks, after those before
abbrev pub lines_from : Backend → List ℕ → List DocBlock → List ℕ
lines_from backend before [] = before
lines_from backend before (block ∷ blocks) = lines_from backend (read_lines backend before block) blocks

-- what is told of a block: the fault of its condition
abbrev pub block_errors : Backend → DocBlock → List LoweringError
block_errors backend block = met_errors (condition_met backend block.cfg false)

-- what is told of documents, in order
abbrev pub docs_errors : Backend → Docs → List LoweringError
docs_errors backend docs = flat_map (block_errors backend) docs.blocks

-- the documents for a backend
abbrev pub docs_for : Backend → Docs → Documented
docs_for backend docs = record { lines = lines_from backend [] docs.blocks; links = docs.links }
