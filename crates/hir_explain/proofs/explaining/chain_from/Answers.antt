use Rattle.std.proofs.Common.{arith}
use Rattle.hir_explain.proofs.Chaining.{run_finishes, run_pushed, within_pushed}
use Rattle.hir_explain.proofs.explaining.chain_from.Goals as goal

pub loop-at-preserved : goal.loop-at-preserved
loop-at-preserved c =
    record {
      standing = omega (arith, c.loop-at.invariant.standing, c.origin_of-at.ensures.earlier);
      run =
          run_pushed c.args.search.now.environment _ _ _ _ _ _ c.lifetime_at.ensures.value c.in_ok-push.ensures.ok c.loop-at.invariant.run
          c.origin_of-at.ensures.direct;
      within = within_pushed c.args.search.now.environment.count _ _ _ c.in_ok-push.ensures.ok c.loop-at.invariant.within c.lifetime_at.ensures.within;
    }

pub returns-clause-chain : goal.returns-clause-chain
returns-clause-chain c =
    run_finishes c.args.search.now.environment _ _ c.args.search.now.reached c.loop-at.at _ _ c.loop-at-test.false
    c.lifetime_at-2.ensures.value c.in_ok-push-2.ensures.ok c.loop-at.invariant.run

pub returns-clause-within : goal.returns-clause-within
returns-clause-within c =
    within_pushed c.args.search.now.environment.count _ _ _ c.in_ok-push-2.ensures.ok c.loop-at.invariant.within c.lifetime_at-2.ensures.within
