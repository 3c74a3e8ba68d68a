use Rattle.std.proofs.lemmas.Str.{IsUtf8-past_char}
use Rattle.bridge_form.proofs.NameLemmas.{name_ended, name_next}
use Rattle.bridge_form.proofs.pointer.put_name.Goals as goal

pub loop-c-preserved : goal.loop-c-preserved
loop-c-preserved c =
    let held = c.loop-c.invariant in
    let parts = c.in-Some.ensures.steps.0 in
    (IsUtf8-past_char _ _ c.in-Some.c held.0 parts, name_next _ _ _ _ _ c.in-Some.c held.0 parts c.in_ok-put_char.ensures held.1)

pub returns : goal.returns
returns c = name_ended _ _ _ c.in-None.ensures.steps.0.0 c.loop-c.invariant.1
