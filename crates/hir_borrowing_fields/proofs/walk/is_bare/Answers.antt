use Rattle.std.proofs.Common.{sym, ◌∙◌}
use Rattle.hir_borrowing_fields.specs.inside.Walks.{IsBare}
use Rattle.hir_borrowing_fields.proofs.BareLemmas.{holds_of_known}
use Rattle.hir_borrowing_fields.proofs.walk.is_bare.Goals as goal

pub returns : goal.returns
returns c = λ h. holds_of_known (IsBare c.args.tcx.now.definitions) c.args.bare.now.keys c.args.visit c.requires (sym c.contains.ensures ∙ h)
