use Rattle.std.proofs.Common.{sym}
use Rattle.hir_backends.specs.Support.{flag_text}
use Rattle.hir_backends.specs.declared.support.flag.SupportFlag.TheVariants.{Namespacing}
use Rattle.bridge_words.proofs.WordLemmas.{found_at, none_after}
use Rattle.bridge_read.proofs.settings.flag_called.Goals as goal

pub returns-then-eq : goal.returns-then-eq
returns-then-eq c =
    rw (← c.all-flag-items.ensures) (sym (found_at (λ flag. (flag_text flag, flag)) c.all-flag-items.result.now c.loop-flag.flag-index Namespacing c.args.name.now c.loop-flag-test.true c.loop-flag.invariant (rw (← c.text.ensures) (sym c.if-eq.ensures))))

pub loop-flag-preserved : goal.loop-flag-preserved
loop-flag-preserved c =
    none_after (λ flag. (flag_text flag, flag)) c.all-flag-items.result.now c.loop-flag.flag-index Namespacing c.args.name.now c.loop-flag-test.true c.loop-flag.invariant (rw (← c.text.ensures) (sym c.if-eq.ensures))
