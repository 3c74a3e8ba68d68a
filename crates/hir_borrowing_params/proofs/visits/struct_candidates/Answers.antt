use Rattle.std.proofs.Common.{◌∷◌, [], ap, arith}
use Rattle.hir_borrowing_params.specs.Edges.{OfStruct}
use Rattle.hir_borrowing_params.proofs.Kinding.{candidates_next}
use Rattle.hir_borrowing_params.proofs.visits.struct_candidates.Goals as goal

pub loop-number-preserved : goal.loop-number-preserved
loop-number-preserved c = record {
  shown = candidates_next c.args.env.now c.args.optional c.args.args.now c.loop-number.number c.index-args-number.result c.loop-number.list.items c.push_reserved.new.self.items _ c.loop-number-test.true c.index-args-number.is
      c.loop-number.invariant.shown c.push_reserved.ensures.items (ap (λ d. record { lifetimes = c.index-args-number.result ∷ []; kind = OfStruct c.args.env.now d c.args.optional }) c.new.ensures);
  many = let m = c.loop-number.invariant.many in let e = c.push_reserved.ensures.len in omega (arith, m, e);
  room = let m = c.loop-number.invariant.room in let e = c.push_reserved.ensures.capacity in omega (arith, m, e);
}
