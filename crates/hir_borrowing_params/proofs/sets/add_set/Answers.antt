use Rattle.std.proofs.Common.{◌≡◌, true, ap, length}
use Rattle.hir_borrowing_params.proofs.Rows.{full_still, set_elsewhere}
use Rattle.hir_borrowing_params.proofs.sets.add_set.Goals as goal

pub returns-clause-others : goal.returns-clause-others
returns-clause-others c = set_elsewhere c.args.sets.now c.insert.new.self c.args.number c.args.set c.in_ok-insert.ensures.updates

pub returns-clause-full : goal.returns-clause-full
returns-clause-full c =
    full_still c.args.sets.now c.insert.new.self c.args.number c.args.set c.in_ok-insert.ensures.updates
    (λ none. let empty : c.is_empty.result ≡ true = c.is_empty.ensures.1 (ap length none) in let full = c.if-is_empty.false in cc (empty, full)) c.requires.full
