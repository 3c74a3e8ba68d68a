use Rattle.std.proofs.Common.{[], ◌∷◌, length, arith, ap, sym, ◌∙◌}
use Rattle.std.proofs.lemmas.List.{append-nil, length-append}
use Rattle.hir_fields.proofs.Zipping.{some_left, zipped_all}
use Rattle.hir_fields.proofs.joining.join_all.Goals as goal

pub loop-first-init : goal.loop-first-init
loop-first-init g c = ([], [], sym (append-nil c.args.firsts), sym (append-nil c.args.seconds), c.requires, c.new-all.ensures.items)

pub loop-first-smaller : goal.loop-first-smaller
loop-first-smaller g c = omega (arith, ap length c.in-Some.ensures, length-append c.pop.new.self (c.in-Some.first ∷ []))

pub loop-first-preserved : goal.loop-first-preserved
loop-first-preserved g c =
    absurd (some_left c.loop-first.firsts c.pop.new.self c.loop-first.seconds c.in-Some.first c.loop-first.invariant.4 c.in-Some.ensures c.in-None.ensures.0)

pub returns : goal.returns
returns g c =
    zipped_all g.J.Joins.both c.args.firsts c.loop-first.firsts c.loop-first.invariant.0 c.args.seconds c.loop-first.seconds c.loop-first.invariant.1 c.loop-first.all.items c.from_vec.result
    c.loop-first.invariant.2 c.loop-first.invariant.3 c.loop-first.invariant.4 c.in_default.ensures.0 c.loop-first.invariant.5 (c.from_vec.ensures ∙ c.reverse.ensures.items)
