use Rattle.std.proofs.Common.{arith}
use Rattle.hir_life_tests.proofs.tests.sound.is_sound.Goals as goal

pub returns : goal.returns
returns c = λ yes.
    record {
      bounds = record {
        longer_named = c.all_mirrored.ensures.named c.if-not-all_mirrored.false;
        shorter_named = c.all_mirrored-2.ensures.named yes;
        longer_has_shorter = λ l s h. c.all_mirrored.ensures.back c.if-not-all_mirrored.false s l h;
        shorter_has_longer = λ l s h. c.all_mirrored-2.ensures.back yes l s h;
      };
      counted = omega arith;
    }
