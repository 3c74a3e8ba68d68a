use Rattle.std.proofs.Common.{◌≡◌, [], take, drop, string_bytes}
use Rattle.std.specs.List.{flat_map}
use Rattle.hir_reports.specs.Store.{Keeps, added}
use Rattle.hir_docs.specs.Docs.{lines_from, block_errors}
use Rattle.hir_docs.proofs.docs.read_blocks.Given as goal

abbrev pub invariant-loop-block : goal.invariant-loop-block
invariant-loop-block g l =
    let backend = g.V.AttributeValidator.meaning l.validator in
    record {
      lines : lines_from backend [] l.blocks ≡ lines_from backend (string_bytes l.lines) (drop l.block-index l.blocks);
      told : l.errors ≡ added l.initial.errors (flat_map (block_errors backend) (take l.block-index l.blocks));
      kept : Keeps l.initial.errors l.errors;
    }
