use Rattle.std.proofs.Common.{sym, subst}
use Rattle.std.specs.List.{All}
use Rattle.hir_borrowing_fields.specs.inside.Walks.{IsBare}
use Rattle.hir_borrowing_fields.proofs.BareLemmas.{all_with}
use Rattle.hir_borrowing_fields.proofs.walk.note_bare.Goals as goal

pub returns : goal.returns
returns c =
    subst (All (IsBare c.args.tcx.now.definitions)) (sym c.in_ok-insert.ensures.keys)
    (all_with (IsBare c.args.tcx.now.definitions) c.args.bare.now.keys c.args.visit c.requires.known c.requires.bare)
