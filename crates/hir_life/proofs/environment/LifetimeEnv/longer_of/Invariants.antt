use Rattle.std.proofs.Common.{◌≡◌, ◌+◌, length, vec_capacity}
use Rattle.hir_life.proofs.Answering.{Collected}
use Rattle.hir_life.proofs.environment.LifetimeEnv.longer_of.Given as goal

abbrev pub invariant-loop-longer : goal.invariant-loop-longer
invariant-loop-longer g l =
    record {
      collected : Collected l.self l.fn.lt l.longer-iterator l.answer.items;
      yielded : l.yielded ≡ l.answer.items;
      room : vec_capacity l.answer ≡ l.self.count;
      steps : l.steps ≡ l.fn.steps + length l.answer.items;
    }
