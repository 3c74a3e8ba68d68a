use Rattle.std.proofs.Common.{◌≡◌, take}
use Rattle.hir_backends.specs.Support.{no_flags}
use Rattle.bridge_read.specs.forms.Settings.{turned_on}
use Rattle.bridge_read.proofs.settings.turned_on.Given as goal

abbrev pub invariant-loop-flag : goal.invariant-loop-flag
invariant-loop-flag l = l.support ≡ turned_on no_flags (take l.flag-index l.flags)
