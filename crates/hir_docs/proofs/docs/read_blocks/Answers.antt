use Rattle.std.proofs.Common.{◌≡◌, ◌+◌, drop, sym, ap, ◌∙◌, string_bytes, rules}
use Rattle.std.proofs.lemmas.List.{at_drop_more}
use Rattle.hir_docs.specs.Docs.{block_errors, lines_from}
use Rattle.hir_reports.proofs.StoreLaws.{added_step}
use Rattle.hir_docs.proofs.docs.read_blocks.Goals as goal

pub loop-block-preserved : goal.loop-block-preserved
loop-block-preserved g c =
    let backend = g.V.AttributeValidator.meaning c.args.validator.now in
    let place = c.loop-block.block-index in
    let blocks = c.args.blocks.now in
    let step = c.in_ok-read_block.ensures in
    record {
      lines =
          c.loop-block.invariant.lines
          ∙ at_drop_more (lines_from backend (string_bytes c.loop-block.lines)) blocks place c.block-item.result c.loop-block-test.true
          ∙ ap (λ lines. lines_from backend lines (drop (place + 1) blocks)) (sym (rw (← c.block-item.is) step.lines));
      told =
          added_step (block_errors backend) c.args.errors.now c.loop-block.errors _ blocks place c.block-item.result c.loop-block-test.true
          c.loop-block.invariant.told (rw (← c.block-item.is) step.told);
      kept = search rules;
    }
