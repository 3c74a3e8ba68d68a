use Rattle.std.proofs.Common.{◌≡◌, ◌++◌, length}
use Rattle.std.specs.Prelude.{reverse, string_bytes}
use Rattle.bridge_form.specs.PointerTexts.{pointer_text}
use Rattle.bridge_form.proofs.pointer.Pointer.into_text.Given as goal

abbrev pub invariant-loop-step : goal.invariant-loop-step
invariant-loop-step l = string_bytes l.text ++ pointer_text (reverse l.steps.items) ≡ pointer_text (reverse l.initial.steps.items)

abbrev pub decreases-loop-step : goal.decreases-loop-step
decreases-loop-step l = length l.steps.items
