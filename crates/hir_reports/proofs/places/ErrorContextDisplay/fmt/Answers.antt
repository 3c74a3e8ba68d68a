use Rattle.std.proofs.Common.{◌≡◌, sym, ◌∙◌, ap}
use Rattle.std.proofs.Output.{has_written_of_eq}
use Rattle.hir_reports.proofs.PlaceLemmas.{placed_by_item, placed_by_method}
use Rattle.hir_reports.proofs.places.ErrorContextDisplay.fmt.Goals as goal
use Rattle.hir_reports.proofs.places.ErrorContextDisplay.fmt.Goals.{else-is_empty-via-then-is_empty+else-is_none, else-is_empty-via-else-is_empty}

pub returns-else-is_empty-clause-writes : goal.returns-else-is_empty-clause-writes
returns-else-is_empty-clause-writes g c =
    λ plain ok. elim c.else-is_empty.branch [
      | else-is_empty-via-then-is_empty+else-is_none w ↦
          has_written_of_eq _ _ _ _ _
          (rw (c.as_slice-else-is_empty.ensures, c.as_str-item.ensures, c.as_ref-subitem.ensures.value) (placed_by_method c.args.self.now.«module» c.args.self.now.item c.args.self.now.subitem (sym c.as_ref-subitem.ensures.variant ∙ w.if-is_none.ensures)))
          (c.put_within.ensures plain ok)
      | else-is_empty-via-else-is_empty w ↦
          has_written_of_eq _ _ _ _ _
          (rw (c.as_slice-else-is_empty.ensures, c.as_str-item.ensures, c.as_ref-subitem.ensures.value) (placed_by_item c.args.self.now.«module» c.args.self.now.item c.args.self.now.subitem (rw (← c.as_str-item.ensures) (sym (w.if-is_empty.ensures)))))
          (c.put_within.ensures plain ok)
    ]
