use Rattle.std.proofs.Common.{◌+◌, ◌∙◌, [], ◌∷◌, ap, arith, drop, length, refl, sym, take}
use Rattle.std.proofs.lemmas.List.{length-append}
use Rattle.std.proofs.lemmas.Result.{err_from_is_err_and}
use Rattle.hir_elide.proofs.GenericLemmas.{around, at_start, goes_on, stops, up_to}
use Rattle.hir_elide.proofs.generics.lower_written.Goals as goal

pub loop-lifetime-init : goal.loop-lifetime-init
loop-lifetime-init g c = (ap length c.requires.0, refl, λ s stands. rw c.requires.0 (at_start g.L.LowerLifetime.phase s (g.L.StandsFor.stands c.args.lowerer.now) stands))

pub returns-in_err-number-clause-fault : goal.returns-in_err-number-clause-fault
returns-in_err-number-clause-fault g c = λ s stands.
    let before = c.loop-lifetime.invariant.2 s stands in
    let p = err_from_is_err_and c.from_residual.result c.from_residual.ensures.1 in
    rw (p.1, p.2) (stops g.L.LowerLifetime.phase s (take c.loop-lifetime.lifetime-index c.args.lifetimes.now) c.loop-lifetime.lowered.items c.lifetime-item.result before.0
    (drop (c.loop-lifetime.lifetime-index + 1) c.args.lifetimes.now) c.in_err-number.field-0.0 (c.in_err-number.ensures.told _ before.1) c.args.lifetimes.now
    (around c.args.lifetimes.now c.loop-lifetime.lifetime-index c.lifetime-item.result c.loop-lifetime-test.true c.lifetime-item.is))

pub loop-lifetime-preserved : goal.loop-lifetime-preserved
loop-lifetime-preserved g c = (
  ap length c.push_reserved.ensures.items ∙ omega (arith, c.loop-lifetime.invariant.0, length-append c.loop-lifetime.lowered.items (c.in_ok-number.number ∷ [])),
  c.push_reserved.ensures.capacity ∙ c.loop-lifetime.invariant.1,
  λ s stands.
      let before = c.loop-lifetime.invariant.2 s stands in
      goes_on g.L.LowerLifetime.phase s (take c.loop-lifetime.lifetime-index c.args.lifetimes.now) c.loop-lifetime.lowered.items c.lifetime-item.result before.0 c.in_ok-number.number
      (g.L.StandsFor.stands c.lower_lifetime.new.self) (c.in_ok-number.ensures.told _ before.1) (c.in_ok-number.ensures.kept _ before.1)
      (take (c.loop-lifetime.lifetime-index + 1) c.args.lifetimes.now)
      (sym (up_to c.args.lifetimes.now c.loop-lifetime.lifetime-index c.lifetime-item.result c.loop-lifetime-test.true c.lifetime-item.is))
      c.push_reserved.new.self.items c.push_reserved.ensures.items,
)
