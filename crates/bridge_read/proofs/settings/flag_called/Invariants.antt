use Rattle.std.proofs.Common.{◌≡◌, map, take, None}
use Rattle.hir_backends.specs.Support.{flag_text}
use Rattle.bridge_form.specs.Form.{find_word}
use Rattle.bridge_read.proofs.settings.flag_called.Given as goal

abbrev pub invariant-loop-flag : goal.invariant-loop-flag
invariant-loop-flag l = find_word (map (λ flag. (flag_text flag, flag)) (take l.flag-index l.flag-items)) l.name ≡ None
